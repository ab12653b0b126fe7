use Rattle.std.proofs.Common.{refl}
use Rattle.std.proofs.lemmas.Result.{on_ok_weaker}
use Rattle.wb_flow.proofs.KindLemmas.{copy_up, copy_down, copy_none}
use Rattle.wb_flow.proofs.arrows.add_copy.Goals as goal

pub returns-then-is_synthesized : goal.returns-then-is_synthesized
returns-then-is_synthesized c = on_ok_weaker c.add_undefined.result
    (copy_up c.args.scope.now.attributes.now c.args.production.now c.args.attribute c.args.arrows.now.items c.add_undefined.new.arrows.items
    (c.if-is_synthesized.ensures.0 refl)) c.add_undefined.ensures

pub returns-then-is_inherited : goal.returns-then-is_inherited
returns-then-is_inherited c = on_ok_weaker c.add_undefined-then-is_inherited.result
    (copy_down c.args.scope.now.attributes.now c.args.production.now c.args.attribute c.args.arrows.now.items c.add_undefined-then-is_inherited.new.arrows.items
    (c.if-is_inherited.ensures.0 refl)) c.add_undefined-then-is_inherited.ensures

pub returns : goal.returns
returns c = copy_none c.args.scope.now.attributes.now c.args.production.now c.args.attribute c.args.arrows.now.items
    (λ up. let bad = c.if-is_synthesized.ensures.1 up in cc) (λ down. let bad = c.if-is_inherited.ensures.1 down in cc)
