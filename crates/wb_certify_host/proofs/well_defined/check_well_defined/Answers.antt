use Rattle.wb_lemmas.proofs.Refusals.{handed_on}
use Rattle.wb_certify_host.specs.WellDefined.{IsWellDefinedRefusal}
use Rattle.wb_certify_host.specs.Tests.{IsKindRefusal}
use Rattle.wb_certify_host.proofs.RefusalLemmas.{attributes_ill_defined, attributes_well_defined, kinds_ill_defined}
use Rattle.wb_certify_host.proofs.well_defined.check_well_defined.Goals as goal

pub returns-in_err-check_kinds-clause-refused : goal.returns-in_err-check_kinds-clause-refused
returns-in_err-check_kinds-clause-refused g c =
    let r = c.args.resolved.now in
    let operations = c.args.operations.now.signatures in
    handed_on (IsKindRefusal r operations) (IsWellDefinedRefusal r operations) c.from_residual.result c.in_err-check_kinds.field-0.0
    c.from_residual.ensures.1 (kinds_ill_defined r operations) c.in_err-check_kinds.ensures.refused

pub returns-clause-ok : goal.returns-clause-ok
returns-clause-ok g c =
    attributes_well_defined c.args.resolved.now c.args.operations.now.signatures c.in_ok-check_kinds.ensures.ok c.check_attributes.result
    c.requires c.check_attributes.ensures.ok

pub returns-clause-refused : goal.returns-clause-refused
returns-clause-refused g c =
    attributes_ill_defined c.args.resolved.now c.args.operations.now.signatures c.in_ok-check_kinds.ensures.ok c.check_attributes.result
    c.check_attributes.ensures.refused
