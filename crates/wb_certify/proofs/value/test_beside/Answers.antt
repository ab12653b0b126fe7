use Rattle.wb_lemmas.proofs.Refusals.{handed_on}
use Rattle.wb_syntax_resolved.specs.declared.resolved.ResolvedParts.{ResolvedParts}
use Rattle.wb_certify.specs.Inner.Tests.{IsLaterRefusal}
use Rattle.wb_certify.specs.Refusals.{IsBesideRefusal}
use Rattle.wb_certify.proofs.ValueLemmas.{attributes_refused, certified}
use Rattle.wb_certify.proofs.value.test_beside.Goals as goal

pub returns-in_err-check_kinds-clause-refused : goal.returns-in_err-check_kinds-clause-refused
returns-in_err-check_kinds-clause-refused g c =
    let operations = c.args.operations.now.signatures in
    handed_on (λ refusal. (host : ResolvedParts) → IsBesideRefusal host c.args.resolved.now operations refusal)
    (IsBesideRefusal c.args.host.now.resolved c.args.resolved.now operations) c.from_residual.result c.in_err-check_kinds.field-0.0
    c.from_residual.ensures.1 (λ refusal reason. reason c.args.host.now.resolved) c.in_err-check_kinds.ensures.refused

pub returns-in_err-check_determinism-clause-refused : goal.returns-in_err-check_determinism-clause-refused
returns-in_err-check_determinism-clause-refused g c =
    let operations = c.args.operations.now.signatures in
    handed_on (IsLaterRefusal c.args.host.now.resolved c.args.resolved.now)
    (IsBesideRefusal c.args.host.now.resolved c.args.resolved.now operations) c.from_residual-in_err-check_determinism.result c.in_err-check_determinism.field-0.0
    c.from_residual-in_err-check_determinism.ensures.1 (λ refusal reason. reason operations c.in_ok-check_kinds.ensures.ok)
    c.in_err-check_determinism.ensures.refused

pub returns-in-Err-clause-refused : goal.returns-in-Err-clause-refused
returns-in-Err-clause-refused g c =
    attributes_refused c.args.host.now.resolved c.args.resolved.now c.args.operations.now.signatures c.in_ok-check_kinds.ensures.ok
    c.in_ok-check_determinism.ensures.ok.found c.in-Err.refusal c.in-Err.ensures.refused

pub returns-in-Ok-clause-ok : goal.returns-in-Ok-clause-ok
returns-in-Ok-clause-ok g c = record {
  host_certified = c.in_ok-check_determinism.ensures.ok.host_certified;
  certified = certified c.args.host.now.resolved c.args.resolved.now c.args.operations.now.signatures c.requires
      c.in_ok-check_kinds.ensures.ok c.in_ok-check_determinism.ensures.ok.found c.in-Ok.ensures.ok;
}
