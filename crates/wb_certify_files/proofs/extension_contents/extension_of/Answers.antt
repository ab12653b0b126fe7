use Rattle.std.proofs.lemmas.Result.{IfOk-weaker}
use Rattle.wb_lemmas.proofs.Refusals.{handed_on}
use Rattle.wb_recheck.specs.Kept.{ExtensionView}
use Rattle.wb_certify_files.specs.ExtensionContents.{IsExtensionRefusal, IsExtensionText}
use Rattle.wb_certify_files.specs.Specifications.{IsExtensionSpec, IsHeaderRefusal}
use Rattle.wb_certify_files.proofs.ExtensionLemmas.{header_refused}
use Rattle.wb_certify_files.proofs.extension_contents.extension_of.Goals as goal

pub returns-in_err-spec-clause-refused : goal.returns-in_err-spec-clause-refused
returns-in_err-spec-clause-refused g c =
    let host = c.args.host.now.resolved in
    let operations = c.args.host.now.operations in
    let contents = c.args.contents.now in
    handed_on (IsHeaderRefusal host contents) (IsExtensionRefusal host operations contents) c.from_residual.result
    c.in_err-spec.field-0.0 c.from_residual.ensures.1 (header_refused host operations contents) c.in_err-spec.ensures.refused

pub returns-clause-extension : goal.returns-clause-extension
returns-clause-extension g c =
    let host = c.args.host.now.resolved in
    let operations = c.args.host.now.operations in
    let contents = c.args.contents.now in
    IfOk-weaker c.extension_of_spec-answer.result (λ (e : ExtensionView). IsExtensionSpec host operations c.in_ok-spec.spec e.resolved)
    (λ (e : ExtensionView). IsExtensionText host operations contents e.resolved)
    (λ e is. is contents c.in_ok-spec.ensures.spec.accepted) c.extension_of_spec-answer.ensures.extension
