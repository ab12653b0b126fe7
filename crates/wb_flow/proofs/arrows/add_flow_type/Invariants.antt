use Rattle.wb_flow.specs.Inner.Adding.{SomeBefore}
use Rattle.wb_flow.specs.Adding.{Adds}
use Rattle.wb_flow.specs.Inner.Arrows.{IsNeedArrow}
use Rattle.wb_flow.proofs.arrows.add_flow_type.Given as goal

abbrev pub invariant-needs : goal.invariant-needs
invariant-needs l =
    Adds l.fn.arrows.items l.arrows.items (SomeBefore l.inherited-items l.inherited-index (IsNeedArrow l.position l.occurrence.attribute))
