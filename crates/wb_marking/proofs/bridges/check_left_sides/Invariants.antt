use Rattle.std.proofs.Common.{◌<◌, ℕ}
use Rattle.wb_marking.specs.Inner.Begun.{IsOpen}
use Rattle.wb_marking.proofs.bridges.check_left_sides.Given as goal

abbrev pub invariant-productions : goal.invariant-productions
invariant-productions l = (n : ℕ) → n < l.number → IsOpen l.scope.parts.now l.scope.grammar.now n
