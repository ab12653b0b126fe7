use Rattle.std.proofs.Common.{refl}
use Rattle.std.proofs.lemmas.Result.{on_ok_weaker}
use Rattle.wb_flow.proofs.ReachLemmas.{adds_top}
use Rattle.wb_flow.proofs.reach.add_top.Goals as goal

pub returns : goal.returns
returns c = on_ok_weaker c.add.result
    (adds_top c.args.scope.now.attributes.now c.args.vertex c.in-Top.attribute c.in-Top.is (c.if-not-is_inherited.ensures.0 refl)
    c.args.tops.now c.add.new.self) c.add.ensures
