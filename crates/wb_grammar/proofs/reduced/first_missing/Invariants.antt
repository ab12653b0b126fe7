use Rattle.std.proofs.Common.{ℕ, ◌<◌}
use Rattle.wb_termset.specs.Sets.{IsMember}
use Rattle.wb_grammar.proofs.reduced.first_missing.Given as goal

abbrev pub invariant-numbers : goal.invariant-numbers
invariant-numbers l = (a : ℕ) → a < l.number → IsMember l.set a
