use Rattle.std.proofs.Common.{subst}
use Rattle.wb_flow.specs.Adding.{Adds}
use Rattle.wb_flow.proofs.AddingLemmas.{adds_to_nothing}
use Rattle.wb_explain_flows_lists.specs.Missing.{IsMissing}
use Rattle.wb_explain_flows_lists.proofs.missing.all_missing.Goals as goal

pub returns-in-Ok : goal.returns-in-Ok
returns-in-Ok c =
    let a = c.args.scope.now.attributes.now in
    adds_to_nothing c.add_all.new.found.items (IsMissing a)
    (subst (λ z. Adds z c.add_all.new.found.items (IsMissing a)) c.new-found.ensures.items c.in-Ok.ensures)
