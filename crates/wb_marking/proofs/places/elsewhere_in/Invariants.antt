use Rattle.wb_marking.specs.Inner.Begun.{BeginsAllBefore}
use Rattle.wb_marking.proofs.places.elsewhere_in.Given as goal

abbrev pub invariant-places : goal.invariant-places
invariant-places l = BeginsAllBefore l.scope.parts.now l.scope.grammar.now l.table l.number l.place
