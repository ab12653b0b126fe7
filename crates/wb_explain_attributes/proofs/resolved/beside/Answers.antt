use Rattle.std.proofs.Common.{subst, IfSome}
use Rattle.wb_explain_attributes.specs.Values.{IsExtensionValue, IsHostValue, IsValueBeside}
use Rattle.wb_explain_attributes.proofs.ValueLemmas.{if_some, beside_is}
use Rattle.wb_explain_attributes.proofs.resolved.beside.Goals as goal

pub extension_value-answer-requires : goal.extension_value-answer-requires
extension_value-answer-requires c = (subst (λ z. IfSome z (IsHostValue c.args.host.now)) c.in-Some.is c.in_ok-found.ensures).names.value.extensions

pub returns-in-Some : goal.returns-in-Some
returns-in-Some c =
    if_some (IsExtensionValue c.in-Some.base c.args.contents.now) (IsValueBeside c.args.host.now c.args.contents.now)
    c.extension_value-answer.result (beside_is c.args.host.now c.args.contents.now c.in-Some.base (subst (λ z. IfSome z (IsHostValue c.args.host.now)) c.in-Some.is c.in_ok-found.ensures))
    c.extension_value-answer.ensures
