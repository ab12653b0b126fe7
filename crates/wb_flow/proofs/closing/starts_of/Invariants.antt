use Rattle.wb_flow.specs.Inner.Closing.{AreStartsBefore}
use Rattle.wb_flow.proofs.closing.starts_of.Given as goal

abbrev pub invariant-places : goal.invariant-places
invariant-places l = AreStartsBefore l.vertices l.tops l.components l.sets.items l.place
