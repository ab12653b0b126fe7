use Rattle.std.proofs.Common.{subst, IfSome}
use Rattle.wb_explain_attributes.specs.Values.{IsValueOf}
use Rattle.std.proofs.Common.{inr}
use Rattle.std.proofs.lemmas.Result.{on_ok_weaker}
use Rattle.wb_explain_attributes.proofs.flow.push_flow.Goals as goal

pub returns-in-Some : goal.returns-in-Some
returns-in-Some c = on_ok_weaker c.push_value-answer.result (λ says. inr (c.in-Some.resolved, subst (λ z. IfSome z (IsValueOf c.args.source.now)) c.in-Some.is c.in_ok-value.ensures, says)) c.push_value-answer.ensures
