use Rattle.std.proofs.Common.{◌<◌, ℕ}
use Rattle.wb_termset.specs.Sets.{IsMember}
use Rattle.wb_determinism.specs.Inner.Contexts.{Allows}
use Rattle.wb_determinism.proofs.lookahead_rule.foreign_member.Given as goal

abbrev pub invariant-numbers : goal.invariant-numbers
invariant-numbers l = (t : ℕ) → t < l.number → IsMember l.set t → Allows l.images l.allowed t
