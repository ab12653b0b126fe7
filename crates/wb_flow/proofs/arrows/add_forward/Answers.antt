use Rattle.std.proofs.Common.{subst}
use Rattle.std.proofs.lemmas.Result.{on_ok_weaker}
use Rattle.wb_flow.specs.declared.vertex.Vertex.TheVariants.{ForwardTree}
use Rattle.wb_flow.specs.Adding.{Adds}
use Rattle.wb_flow.specs.Inner.Arrows.{IsExpressionArrow}
use Rattle.wb_flow.proofs.KindLemmas.{forward_one}
use Rattle.wb_flow.proofs.arrows.add_forward.Goals as goal

pub returns : goal.returns
returns c = on_ok_weaker c.add_expression.result (λ adds.
    forward_one c.args.production.now c.args.arrows.now.items c.add_expression.new.arrows.items c.in-Some.forward c.in-Some.is
    (subst (λ z. Adds c.args.arrows.now.items c.add_expression.new.arrows.items (IsExpressionArrow ForwardTree z)) c.as_slice.ensures adds))
    c.add_expression.ensures
