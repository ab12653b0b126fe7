use Rattle.std.proofs.Common.{◌≡◌, sym, ◌∙◌}
use Rattle.std.proofs.lemmas.Result.{on_ok_weaker}
use Rattle.wb_flow.specs.Inner.Positions.{IsTreeOf}
use Rattle.wb_flow.proofs.AddingLemmas.{adds_one, adds_as}
use Rattle.wb_flow.proofs.TreeLemmas.{tree, tree_one}
use Rattle.wb_flow.proofs.positions.add_tree.Goals as goal

pub returns : goal.returns
returns c = on_ok_weaker c.push.result (λ pushed.
    adds_as c.args.trees.now.items c.push.new.list.items (λ t. t ≡ tree c.args.position c.in-Some.nonterminal)
    (IsTreeOf c.args.production.now c.args.position)
    (tree_one c.args.production.now c.args.position c.in-Some.nonterminal (sym c.nonterminal_in.ensures ∙ c.in-Some.is))
    (adds_one c.args.trees.now.items c.push.new.list.items (tree c.args.position c.in-Some.nonterminal) pushed)) c.push.ensures.ok
