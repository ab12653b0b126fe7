use Rattle.std.proofs.Common.{◌≡◌, subst, sym}
use Rattle.std.proofs.lemmas.Result.{IfOk-weaker}
use Rattle.wb_certify_host.specs.Resolving.{ResolvesExtension}
use Rattle.wb_syntax_resolved.specs.declared.resolved.ResolvedParts.{ResolvedParts}
use Rattle.wb_certify.specs.Kept.{ExtensionView}
use Rattle.wb_certify.proofs.ExtensionLemmas.{certified_extension, extension_refused, of_written}
use Rattle.wb_certify.proofs.extension.certify_extension.Goals as goal

pub certify_beside-answer-requires-clause-extends : goal.certify_beside-answer-requires-clause-extends
certify_beside-answer-requires-clause-extends g c =
    of_written c.args.host.now.resolved c.args.spec.now c.in-Ok.resolved (rw c.resolved.ensures.resolved at c.in-Ok.ensures.ok)
    c.items.ensures.text

pub returns-in-Ok-clause-certified : goal.returns-in-Ok-clause-certified
returns-in-Ok-clause-certified g c =
    certified_extension c.args.host.now.resolved c.args.spec.now c.in-Ok.resolved c.args.host.now.operations
    (rw c.resolved.ensures.resolved at c.in-Ok.ensures.ok) c.certify_beside-answer.result c.resolved.ensures.certified
    c.certify_beside-answer.ensures.certified

pub returns-in-Ok-clause-refused : goal.returns-in-Ok-clause-refused
returns-in-Ok-clause-refused g c =
    extension_refused c.args.host.now.resolved c.args.spec.now c.in-Ok.resolved c.args.host.now.operations
    (rw c.resolved.ensures.resolved at c.in-Ok.ensures.ok) c.certify_beside-answer.result c.certify_beside-answer.ensures.refused

pub returns-in-Ok-clause-names : goal.returns-in-Ok-clause-names
returns-in-Ok-clause-names g c =
    IfOk-weaker c.certify_beside-answer.result (λ (e : ExtensionView). e.resolved ≡ c.in-Ok.resolved)
    (λ (e : ExtensionView). ResolvesExtension c.args.host.now.resolved c.args.spec.now e.resolved)
    (λ (e : ExtensionView) same. subst (ResolvesExtension c.args.host.now.resolved c.args.spec.now) (sym same)
    (rw c.resolved.ensures.resolved at c.in-Ok.ensures.ok)) c.certify_beside-answer.ensures.resolved
