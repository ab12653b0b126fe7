use Rattle.std.proofs.lemmas.Result.{on_ok_weaker}
use Rattle.wb_explain_flows_lists.proofs.LackLemmas.{keeps_both}
use Rattle.wb_explain_flows_lists.proofs.handed.add_rules.Goals as goal

pub returns : goal.returns
returns c =
    let a = c.args.spot.now.scope.now.attributes.now in
    let xs = c.args.found.now.items in
    on_ok_weaker c.add_forward.result (λ third.
    keeps_both a xs c.add_locals.new.found.items c.add_forward.new.found.items
    (keeps_both a xs c.add_equations.new.found.items c.add_locals.new.found.items c.in_ok-add_equations.ensures c.in_ok-add_locals.ensures)
    third) c.add_forward.ensures
