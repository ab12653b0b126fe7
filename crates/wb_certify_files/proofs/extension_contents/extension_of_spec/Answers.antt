use Rattle.std.proofs.Common.{List, subst}
use Rattle.wb_lemmas.proofs.Refusals.{handed_on}
use Rattle.wb_operations.specs.Operations.{OperationSignature}
use Rattle.wb_syntax_resolved.specs.declared.resolved.ResolvedParts.{ResolvedParts}
use Rattle.wb_certify_files.specs.Numbered.{IsNumbered}
use Rattle.wb_certify_files.specs.Specifications.{IsSpecRefusal}
use Rattle.wb_certify_files.specs.declared.extension_refusal.FileRefusal.{FileRefusal}
use Rattle.wb_certify_files.proofs.ExtensionLemmas.{extends_by}
use Rattle.wb_certify_files.proofs.extension_contents.extension_of_spec.Goals as goal

pub certified-answer-requires-clause-extends : goal.certified-answer-requires-clause-extends
certified-answer-requires-clause-extends g c =
    let is = subst (λ (r : ResolvedParts). IsNumbered r c.args.spec.now c.in_ok-resolved.resolved) c.resolved.ensures.resolved
    c.in_ok-resolved.ensures.ok in
    extends_by c.args.host.now.resolved c.args.spec.now c.in_ok-resolved.resolved is c.items.ensures.text

pub returns-in_err-resolved-clause-refused : goal.returns-in_err-resolved-clause-refused
returns-in_err-resolved-clause-refused g c =
    let host = c.args.host.now.resolved in
    let spec = c.args.spec.now in
    let refused = subst (λ (r : ResolvedParts). (operations : List OperationSignature)
    → IsSpecRefusal r operations spec c.in_err-resolved.field-0.0) c.resolved.ensures.resolved c.in_err-resolved.ensures.refused in
    handed_on (λ (z : FileRefusal). (operations : List OperationSignature) → IsSpecRefusal host operations spec z)
    (IsSpecRefusal host c.args.host.now.operations spec) c.from_residual.result c.in_err-resolved.field-0.0 c.from_residual.ensures.1
    (λ f p. p c.args.host.now.operations) refused

pub returns-clause-extension : goal.returns-clause-extension
returns-clause-extension g c =
    let is = subst (λ (r : ResolvedParts). IsNumbered r c.args.spec.now c.in_ok-resolved.resolved) c.resolved.ensures.resolved
    c.in_ok-resolved.ensures.ok in
    c.certified-answer.ensures.extension c.args.spec.now is

pub returns-clause-refused : goal.returns-clause-refused
returns-clause-refused g c =
    let is = subst (λ (r : ResolvedParts). IsNumbered r c.args.spec.now c.in_ok-resolved.resolved) c.resolved.ensures.resolved
    c.in_ok-resolved.ensures.ok in
    c.certified-answer.ensures.refused c.args.spec.now is
