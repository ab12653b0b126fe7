use Rattle.std.proofs.Common.{subst, sym}
use Rattle.wb_explain_flows_lists.specs.Held.{AreUnheld}
use Rattle.std.proofs.lemmas.Result.{on_ok_weaker}
use Rattle.wb_explain_flows_lists.proofs.AllLemmas.{unheld_said}
use Rattle.wb_explain_flows_lists.proofs.held.push_unheld.Goals as goal

pub returns : goal.returns
returns c = on_ok_weaker c.push_found-answer.result
    (unheld_said c.args.told.now.scope.now.attributes.now c.args.out.now.items c.push_found-answer.new.out.items c.deref.result.now
    (subst (AreUnheld c.args.told.now.scope.now.attributes.now) (sym c.deref.ensures.value)
    c.in_ok-found.ensures)) c.push_found-answer.ensures
