use Rattle.wb_lemmas.proofs.Refusals.{handed_on}
use Rattle.wb_certify_files.specs.WellDefined.{IsWellDefinedTextRefusal}
use Rattle.wb_certify_files.specs.Unresolved.{IsUnresolved}
use Rattle.wb_certify_files.proofs.UnresolvedLemmas.{well_defined_unresolved}
use Rattle.wb_certify_files.proofs.well_defined.well_defined_host_of.Goals as goal

pub returns-in_err-resolved-clause-refused : goal.returns-in_err-resolved-clause-refused
returns-in_err-resolved-clause-refused g c =
    let operations = c.args.operations.now.signatures in
    handed_on (IsUnresolved c.args.contents.now) (IsWellDefinedTextRefusal operations c.args.contents.now) c.from_residual.result
    c.in_err-resolved.field-0.0 c.from_residual.ensures.1 (well_defined_unresolved operations c.args.contents.now)
    c.in_err-resolved.ensures.refused

pub returns-in-Err-clause-refused : goal.returns-in-Err-clause-refused
returns-in-Err-clause-refused g c = c.in-Err.ensures.refused c.args.contents.now c.in_ok-resolved.ensures.ok
