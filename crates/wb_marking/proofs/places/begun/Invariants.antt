use Rattle.wb_marking.specs.Inner.Begun.{AreBegun}
use Rattle.wb_marking.proofs.places.begun.Given as goal

abbrev pub invariant-productions : goal.invariant-productions
invariant-productions l = AreBegun l.scope.parts.now l.scope.grammar.now l.number l.table.items
