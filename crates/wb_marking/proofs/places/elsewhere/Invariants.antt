use Rattle.std.proofs.Common.{◌<◌, ℕ}
use Rattle.wb_marking.specs.Inner.Begun.{BeginsAll}
use Rattle.wb_marking.proofs.places.elsewhere.Given as goal

abbrev pub invariant-productions : goal.invariant-productions
invariant-productions l = (n : ℕ) → n < l.number → BeginsAll l.scope.parts.now l.scope.grammar.now l.table n
