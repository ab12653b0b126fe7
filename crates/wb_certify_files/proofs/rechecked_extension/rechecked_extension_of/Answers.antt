use Rattle.std.proofs.Common.{subst}
use Rattle.wb_syntax_resolved.specs.declared.resolved.ResolvedParts.{ResolvedParts}
use Rattle.wb_certify_files.specs.Specifications.{IsHeaderRefusal, IsSpecFor}
use Rattle.wb_certify_files.proofs.RecheckedExtensionLemmas.{first_line_refused}
use Rattle.wb_certify_files.proofs.rechecked_extension.rechecked_extension_of.Goals as goal

pub returns-in-Ok-clause-extension : goal.returns-in-Ok-clause-extension
returns-in-Ok-clause-extension g c = c.rechecked_spec-answer.ensures.extension c.args.contents.now c.in-Ok.ensures.spec.accepted

pub returns-in-Ok-clause-refused : goal.returns-in-Ok-clause-refused
returns-in-Ok-clause-refused g c = c.rechecked_spec-answer.ensures.refused c.args.contents.now c.in-Ok.ensures.spec.accepted

pub returns-in-Err-clause-refused : goal.returns-in-Err-clause-refused
returns-in-Err-clause-refused g c =
    first_line_refused c.args.host.now.resolved c.args.host.now.operations c.args.certificate.now c.args.contents.now c.in-Err.refusal
    (subst (λ (r : ResolvedParts). IsHeaderRefusal r c.args.contents.now c.in-Err.refusal) c.resolved.ensures.resolved
    c.in-Err.ensures.refused)
