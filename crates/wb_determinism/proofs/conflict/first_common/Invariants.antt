use Rattle.std.proofs.Common.{◌<◌, ℕ}
use Rattle.wb_termset.specs.Sets.{IsMember}
use Rattle.wb_determinism.proofs.conflict.first_common.Given as goal

abbrev pub invariant-numbers : goal.invariant-numbers
invariant-numbers l = (t : ℕ) → t < l.number → ¬ (IsMember l.one t × IsMember l.other t)
