use Rattle.wb_certify.proofs.CertifiedValueLemmas.{certified}
use Rattle.wb_lemmas.proofs.Refusals.{handed_on}
use Rattle.wb_recheck.specs.HostRefusals.{IsValueRecheckRefusal}
use Rattle.wb_recheck.specs.Inner.Handed.{IsKindFault}
use Rattle.wb_recheck.specs.Inner.Hosts.{IsLaterRefusal}
use Rattle.wb_recheck.proofs.HostLemmas.{attributes_value}
use Rattle.wb_recheck.proofs.value.rechecked_parts.Goals as goal

pub returns-in_err-test_kinds-clause-refused : goal.returns-in_err-test_kinds-clause-refused
returns-in_err-test_kinds-clause-refused g c =
    let r = c.args.resolved.now in
    let operations = c.args.operations.now.signatures in
    let text = c.args.certificate.now in
    handed_on (IsKindFault r operations) (IsValueRecheckRefusal r operations text) c.from_residual.result c.in_err-test_kinds.field-0.0
    c.from_residual.ensures.1 (λ refusal fault. fault.of_host text) c.in_err-test_kinds.ensures.refused

pub returns-in_err-parts-clause-refused : goal.returns-in_err-parts-clause-refused
returns-in_err-parts-clause-refused g c =
    let r = c.args.resolved.now in
    let operations = c.args.operations.now.signatures in
    let text = c.args.certificate.now in
    handed_on (IsLaterRefusal r text) (IsValueRecheckRefusal r operations text) c.from_residual-in_err-parts.result
    c.in_err-parts.field-0.0 c.from_residual-in_err-parts.ensures.1 (λ refusal later. later operations c.in_ok-test_kinds.ensures.ok)
    c.in_err-parts.ensures.refused

pub returns-in-Ok-clause-certified : goal.returns-in-Ok-clause-certified
returns-in-Ok-clause-certified g c = record {
  whole = c.in_ok-parts.ensures.ok.whole;
  certified = certified c.args.resolved.now c.args.operations.now.signatures c.requires c.in_ok-test_kinds.ensures.ok
      c.in_ok-parts.ensures.ok.deterministic c.in-Ok.ensures.ok.0 c.in-Ok.ensures.ok.1;
  parts = c.in_ok-parts.ensures.ok.of_grammar;
}

pub returns-in-Ok-clause-certificate : goal.returns-in-Ok-clause-certificate
returns-in-Ok-clause-certificate g c = c.in_ok-parts.ensures.ok.certificate

pub returns-in-Err-clause-refused : goal.returns-in-Err-clause-refused
returns-in-Err-clause-refused g c =
    attributes_value c.args.resolved.now c.args.certificate.now c.args.operations.now.signatures c.in_ok-test_kinds.ensures.ok
    c.in_ok-parts.ensures.ok.deterministic c.in_ok-parts.ensures.ok.certificate c.in-Err.refusal c.of_certify.result
    c.of_certify.ensures c.in-Err.ensures.refused
