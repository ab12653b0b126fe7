use Rattle.wb_marking.specs.Inner.Compared.{AreOrderedBy}
use Rattle.wb_marking.proofs.compared.ordered_with.Given as goal

abbrev pub invariant-preferences : goal.invariant-preferences
invariant-preferences l = AreOrderedBy l.parts l.preference-index l.marker l.ordered
