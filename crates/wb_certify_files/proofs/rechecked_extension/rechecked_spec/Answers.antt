use Rattle.std.proofs.Common.{subst, List}
use Rattle.wb_operations.specs.Operations.{OperationSignature}
use Rattle.wb_syntax_resolved.specs.declared.resolved.ResolvedParts.{ResolvedParts}
use Rattle.wb_certify_files.proofs.ExtensionLemmas.{extends_by, stands_for}
use Rattle.wb_certify_files.specs.Numbered.{IsNumbered}
use Rattle.wb_certify_files.specs.Specifications.{IsSpecRefusal}
use Rattle.wb_certify_files.proofs.RecheckedExtensionLemmas.{names_refused}
use Rattle.wb_certify_files.proofs.rechecked_extension.rechecked_spec.Goals as goal

pub rechecked-answer-requires-clause-extends : goal.rechecked-answer-requires-clause-extends
rechecked-answer-requires-clause-extends g c =
    let is = subst (λ (r : ResolvedParts). IsNumbered r c.args.spec.now c.in-Ok.resolved) c.resolved.ensures.resolved c.in-Ok.ensures.ok in
    extends_by c.args.host.now.resolved c.args.spec.now c.in-Ok.resolved is c.items.ensures.text

pub returns-in-Ok-clause-extension : goal.returns-in-Ok-clause-extension
returns-in-Ok-clause-extension g c = λ contents accepted.
    let is = subst (λ (r : ResolvedParts). IsNumbered r c.args.spec.now c.in-Ok.resolved) c.resolved.ensures.resolved c.in-Ok.ensures.ok in
    c.rechecked-answer.ensures.extension contents
    (stands_for c.args.host.now.resolved c.args.spec.now c.in-Ok.resolved is contents accepted)

pub returns-in-Ok-clause-refused : goal.returns-in-Ok-clause-refused
returns-in-Ok-clause-refused g c = λ contents accepted.
    let is = subst (λ (r : ResolvedParts). IsNumbered r c.args.spec.now c.in-Ok.resolved) c.resolved.ensures.resolved c.in-Ok.ensures.ok in
    c.rechecked-answer.ensures.refused contents
    (stands_for c.args.host.now.resolved c.args.spec.now c.in-Ok.resolved is contents accepted)

pub returns-in-Err-clause-refused : goal.returns-in-Err-clause-refused
returns-in-Err-clause-refused g c = λ contents accepted.
    let operations = c.args.host.now.operations in
    let refused = subst (λ (r : ResolvedParts). (o : List OperationSignature) → IsSpecRefusal r o c.args.spec.now c.in-Err.refusal)
    c.resolved.ensures.resolved c.in-Err.ensures.refused in
    names_refused c.args.host.now.resolved operations c.args.certificate.now contents c.in-Err.refusal
    (refused operations contents accepted) c.in-Err.ensures.names
