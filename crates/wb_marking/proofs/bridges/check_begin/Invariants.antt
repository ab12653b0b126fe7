use Rattle.std.proofs.Common.{◌<◌, ℕ}
use Rattle.wb_marking.specs.Bridges.{IsOnHost, BeginsWithMarker}
use Rattle.wb_marking.proofs.bridges.check_begin.Given as goal

abbrev pub invariant-productions : goal.invariant-productions
invariant-productions l = (n : ℕ) → n < l.number → IsOnHost l.scope.parts.now l.scope.grammar.now n
    → BeginsWithMarker l.scope.parts.now l.scope.grammar.now n
