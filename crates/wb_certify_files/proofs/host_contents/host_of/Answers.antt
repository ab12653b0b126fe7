use Rattle.wb_lemmas.proofs.Refusals.{handed_on}
use Rattle.wb_certify_files.specs.HostContents.{IsHostRefusal}
use Rattle.wb_certify_files.specs.Unresolved.{IsUnresolved}
use Rattle.wb_certify_files.proofs.UnresolvedLemmas.{host_unresolved}
use Rattle.wb_certify_files.proofs.HostLemmas.{of_text}
use Rattle.wb_certify_files.proofs.host_contents.host_of.Goals as goal

pub certified-answer-requires : goal.certified-answer-requires
certified-answer-requires g c = of_text c.args.contents.now c.in_ok-resolved.resolved c.in_ok-resolved.ensures.ok

pub returns-in_err-resolved-clause-refused : goal.returns-in_err-resolved-clause-refused
returns-in_err-resolved-clause-refused g c =
    let operations = c.args.operations.now.signatures in
    handed_on (IsUnresolved c.args.contents.now) (IsHostRefusal operations c.args.contents.now) c.from_residual.result
    c.in_err-resolved.field-0.0 c.from_residual.ensures.1 (host_unresolved operations c.args.contents.now) c.in_err-resolved.ensures.refused

pub returns-clause-host : goal.returns-clause-host
returns-clause-host g c = c.certified-answer.ensures.host c.args.contents.now c.in_ok-resolved.ensures.ok

pub returns-clause-refused : goal.returns-clause-refused
returns-clause-refused g c = c.certified-answer.ensures.refused c.args.contents.now c.in_ok-resolved.ensures.ok
