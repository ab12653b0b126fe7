use Rattle.wb_flow.specs.Inner.Closing.{IsSelectionBefore}
use Rattle.wb_flow.proofs.reach.TopReach.selection.Given as goal

abbrev pub invariant-listed : goal.invariant-listed
invariant-listed l = IsSelectionBefore l.self.tops l.listed l.set l.attribute-index
