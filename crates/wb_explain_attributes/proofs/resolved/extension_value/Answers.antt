use Rattle.std.proofs.Common.{subst, IfSome}
use Rattle.wb_reader.specs.Refusals.{IsAcceptedText}
use Rattle.wb_names.specs.Resolving.{ResolvesExtension}
use Rattle.wb_explain_attributes.specs.Values.{IsExtensionValue}
use Rattle.wb_explain_attributes.proofs.ValueLemmas.{if_some, extension_is}
use Rattle.wb_explain_attributes.proofs.resolved.extension_value.Goals as goal

pub returns-in-Some : goal.returns-in-Some
returns-in-Some c =
    if_some (ResolvesExtension c.args.base.now c.in-Some.spec) (IsExtensionValue c.args.base.now c.args.contents.now) c.extension_named-answer.result
    (extension_is c.args.base.now c.args.contents.now c.in-Some.spec (subst (λ z. IfSome z (IsAcceptedText c.args.contents.now)) c.in-Some.is c.in_ok-read.ensures)) c.extension_named-answer.ensures
