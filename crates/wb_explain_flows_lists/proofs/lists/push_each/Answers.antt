use Rattle.std.proofs.Common.{subst}
use Rattle.wb_explain_flows_lists.specs.Lists.{HasText}
use Rattle.wb_explain_flows_lists.proofs.TextLemmas.{all_texts, no_texts, one_text}
use Rattle.wb_explain_flows_lists.proofs.lists.push_each.Goals as goal

pub found-init : goal.found-init
found-init g c = no_texts (g.T.Listed.IsText c.args.told.now.scope.now.attributes.now) c.args.found.now c.args.out.now.items

pub found-preserved : goal.found-preserved
found-preserved g c =
    let R = g.T.Listed.IsText c.args.told.now.scope.now.attributes.now in
    let mid = c.found.out.items in
    let new = c.push.new.out.items in
    one_text R c.args.found.now c.args.out.now.items mid new c.found.one-index c.one-item.result c.found.invariant c.found-test.true
    (subst (λ z. HasText (R z) mid new) c.one-item.is c.in_ok-push.ensures)

pub returns : goal.returns
returns g c =
    all_texts (g.T.Listed.IsText c.args.told.now.scope.now.attributes.now) c.args.found.now c.args.out.now.items c.found.out.items
    c.found.one-index c.found.invariant c.found-test.false
