use Rattle.std.proofs.lemmas.Result.{on_ok_weaker}
use Rattle.wb_flow.specs.Inner.Adding.{SomeOf}
use Rattle.wb_flow.specs.Inner.Arrows.{IsNeedArrow, IsTreeArrow}
use Rattle.wb_flow.proofs.AddingLemmas.{adds_both}
use Rattle.wb_flow.proofs.arrows.add_occurrence.Goals as goal

pub returns : goal.returns
returns c = on_ok_weaker c.add_tree.result
    (adds_both c.args.arrows.now.items c.add_flow_type.new.arrows.items c.add_tree.new.arrows.items
    (SomeOf c.args.occurrence.now.needs (IsNeedArrow c.args.position c.args.occurrence.now.attribute))
    (IsTreeArrow c.args.scope.now.attributes.now c.args.position c.args.occurrence.now.attribute) c.in_ok-add_flow_type.ensures)
    c.add_tree.ensures
