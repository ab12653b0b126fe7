use Rattle.std.proofs.Common.{refl, sym, ◌∙◌}
use Rattle.std.proofs.lemmas.Result.{on_ok_weaker}
use Rattle.wb_flow.proofs.KindLemmas.{tree_one}
use Rattle.wb_flow.proofs.arrows.add_tree.Goals as goal

pub returns : goal.returns
returns c = on_ok_weaker c.push.result
    (tree_one c.args.scope.now.attributes.now c.args.arrows.now.items c.push.new.list.items c.args.position c.args.attribute c.vertex-from.result
    c.in-Some.to (c.if-not-is_synthesized.ensures.0 refl) c.vertex-from.ensures (sym c.tree.ensures ∙ c.in-Some.is)) c.push.ensures.ok
