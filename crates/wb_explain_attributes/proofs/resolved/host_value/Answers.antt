use Rattle.std.proofs.Common.{subst, IfSome}
use Rattle.wb_reader.specs.Refusals.{IsAcceptedText}
use Rattle.wb_names.specs.Resolving.{ResolvesHost}
use Rattle.wb_explain_attributes.specs.Values.{IsHostValue}
use Rattle.wb_explain_attributes.proofs.ValueLemmas.{if_some, host_is}
use Rattle.wb_explain_attributes.proofs.resolved.host_value.Goals as goal

pub returns-in-Some : goal.returns-in-Some
returns-in-Some c =
    if_some (ResolvesHost c.in-Some.spec) (IsHostValue c.args.contents.now) c.host_named-answer.result
    (host_is c.args.contents.now c.in-Some.spec (subst (λ z. IfSome z (IsAcceptedText c.args.contents.now)) c.in-Some.is c.in_ok-read.ensures)) c.host_named-answer.ensures
