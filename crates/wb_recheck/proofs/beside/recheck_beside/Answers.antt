use Rattle.std.proofs.Common.{List, subst}
use Rattle.wb_lemmas.proofs.Refusals.{handed_on}
use Rattle.wb_certify.proofs.ValueLemmas.{certified}
use Rattle.wb_certify.specs.Extensions.{IsCertifiedBeside}
use Rattle.wb_operations.specs.Operations.{OperationSignature}
use Rattle.wb_recheck.specs.ExtensionRefusals.{IsBesideRecheckRefusal}
use Rattle.wb_recheck.specs.Inner.Extensions.{IsLaterBeside}
use Rattle.wb_recheck.specs.Inner.Handed.{IsKindFault}
use Rattle.wb_recheck.proofs.ExtensionLemmas.{attributes_beside}
use Rattle.wb_recheck.proofs.beside.recheck_beside.Goals as goal

pub returns-in_err-test_kinds-clause-refused : goal.returns-in_err-test_kinds-clause-refused
returns-in_err-test_kinds-clause-refused g c =
    let host = c.args.host.now.resolved in
    let r = c.args.resolved.now in
    let text = c.args.certificate.now in
    handed_on (IsKindFault r c.args.operations.now.signatures) (IsBesideRecheckRefusal host r c.args.host.now.operations text)
    c.from_residual.result c.in_err-test_kinds.field-0.0 c.from_residual.ensures.1
    (λ refusal fault. subst (λ (os : List OperationSignature). IsBesideRecheckRefusal host r os text refusal) c.requires.operations
    (fault.beside host text)) c.in_err-test_kinds.ensures.refused

pub returns-in_err-test_grammar-clause-refused : goal.returns-in_err-test_grammar-clause-refused
returns-in_err-test_grammar-clause-refused g c =
    let host = c.args.host.now.resolved in
    let r = c.args.resolved.now in
    let text = c.args.certificate.now in
    handed_on (IsLaterBeside host r text) (IsBesideRecheckRefusal host r c.args.host.now.operations text)
    c.from_residual-in_err-test_grammar.result c.in_err-test_grammar.field-0.0 c.from_residual-in_err-test_grammar.ensures.1
    (λ refusal later. subst (λ (os : List OperationSignature). IsBesideRecheckRefusal host r os text refusal) c.requires.operations
    (later c.args.operations.now.signatures c.in_ok-test_kinds.ensures.ok)) c.in_err-test_grammar.ensures.refused

pub returns-in-Ok-clause-certified : goal.returns-in-Ok-clause-certified
returns-in-Ok-clause-certified g c =
    subst (IsCertifiedBeside c.args.host.now.resolved c.args.resolved.now) c.requires.operations
    (certified c.args.host.now.resolved c.args.resolved.now c.args.operations.now.signatures c.requires.extends
    c.in_ok-test_kinds.ensures.ok c.in_ok-test_grammar.ensures.ok.found c.in-Ok.ensures.ok)

pub returns-in-Ok-clause-certificate : goal.returns-in-Ok-clause-certificate
returns-in-Ok-clause-certificate g c = c.in_ok-test_grammar.ensures.ok.certificate

pub returns-in-Err-clause-refused : goal.returns-in-Err-clause-refused
returns-in-Err-clause-refused g c =
    let host = c.args.host.now.resolved in
    let r = c.args.resolved.now in
    let text = c.args.certificate.now in
    subst (λ (os : List OperationSignature). IsBesideRecheckRefusal host r os text c.of_certify.result) c.requires.operations
    (attributes_beside host r c.args.operations.now.signatures text c.in_ok-test_kinds.ensures.ok c.in_ok-test_grammar.ensures.ok.found
    c.in_ok-test_grammar.ensures.ok.certificate c.in-Err.refusal c.of_certify.result c.of_certify.ensures c.in-Err.ensures.refused)
