use Rattle.std.proofs.Common.{List, subst}
use Rattle.wb_lemmas.proofs.Refusals.{handed_on}
use Rattle.wb_operations.specs.Operations.{OperationSignature}
use Rattle.wb_certify.specs.Extensions.{IsCertifiedBeside}
use Rattle.wb_certify.specs.Refusals.{IsBesideRefusal}
use Rattle.wb_certify.proofs.ValueLemmas.{kept_of}
use Rattle.wb_certify.proofs.value.certify_beside.Goals as goal

pub returns-in_err-test_beside-clause-refused : goal.returns-in_err-test_beside-clause-refused
returns-in_err-test_beside-clause-refused g c =
    let refuses = IsBesideRefusal c.args.host.now.resolved c.args.resolved.now in
    handed_on (refuses c.args.operations.now.signatures) (refuses c.args.host.now.operations) c.from_residual.result
    c.in_err-test_beside.field-0.0 c.from_residual.ensures.1
    (λ refusal reason. subst (λ (os : List OperationSignature). refuses os refusal) c.requires.operations reason)
    c.in_err-test_beside.ensures.refused

pub invariant_of-result : goal.invariant_of-result
invariant_of-result g c =
    kept_of c.args.host.now c.in-Ok.base c.args.resolved.now c.in-Ok.copied c.args.operations.now.signatures c.in-Ok.signatures
    c.in-Ok.ensures.host c.in-Ok.ensures.resolved c.in-Ok.ensures.operations c.requires.operations c.requires.extends
    c.in_ok-test_beside.ensures.ok

pub returns-in-Ok-clause-certified : goal.returns-in-Ok-clause-certified
returns-in-Ok-clause-certified g c =
    subst (IsCertifiedBeside c.args.host.now.resolved c.args.resolved.now) c.requires.operations c.in_ok-test_beside.ensures.ok.certified
