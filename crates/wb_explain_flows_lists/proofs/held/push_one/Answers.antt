use Rattle.std.proofs.Common.{◌++◌, refl}
use Rattle.std.proofs.lemmas.Result.{on_ok_weaker}
use Rattle.wb_explain_flows_lists.specs.Held.{unheld_text}
use Rattle.wb_explain_flows_lists.proofs.held.push_one.Goals as goal

pub returns : goal.returns
returns c = on_ok_weaker c.push_parts-answer.result
    (λ is. (unheld_text c.args.told.now.scope.now.attributes.now c.args.one ++ c.deref.result.now, (c.deref.result.now, refl), is))
    c.push_parts-answer.ensures
