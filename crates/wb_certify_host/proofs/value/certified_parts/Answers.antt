use Rattle.wb_lemmas.proofs.Refusals.{handed_on}
use Rattle.wb_certify_host.specs.Refusals.{IsValueRefusal}
use Rattle.wb_certify_host.specs.Tests.{IsGrammarRefusal, IsKindRefusal}
use Rattle.wb_certify_host.proofs.RefusalLemmas.{attributes_refused, grammar_refused, kinds_refused}
use Rattle.wb_certify_host.proofs.ValueLemmas.{certified}
use Rattle.wb_certify_host.proofs.value.certified_parts.Goals as goal

pub returns-in_err-check_kinds-clause-refused : goal.returns-in_err-check_kinds-clause-refused
returns-in_err-check_kinds-clause-refused g c =
    let r = c.args.resolved.now in
    let operations = c.args.operations.now.signatures in
    handed_on (IsKindRefusal r operations) (IsValueRefusal r operations) c.from_residual.result c.in_err-check_kinds.field-0.0
    c.from_residual.ensures.1 (kinds_refused r operations) c.in_err-check_kinds.ensures.refused

pub returns-in_err-parts-clause-refused : goal.returns-in_err-parts-clause-refused
returns-in_err-parts-clause-refused g c =
    let r = c.args.resolved.now in
    let operations = c.args.operations.now.signatures in
    handed_on (IsGrammarRefusal r) (IsValueRefusal r operations) c.from_residual-in_err-parts.result c.in_err-parts.field-0.0
    c.from_residual-in_err-parts.ensures.1 (grammar_refused r operations c.in_ok-check_kinds.ensures.ok) c.in_err-parts.ensures.refused

pub returns-in-Ok-clause-certified : goal.returns-in-Ok-clause-certified
returns-in-Ok-clause-certified g c = record {
  whole = c.in_ok-parts.ensures.ok.whole;
  certified = certified c.args.resolved.now c.args.operations.now.signatures c.requires c.in_ok-check_kinds.ensures.ok
      c.in_ok-parts.ensures.ok.deterministic c.in-Ok.ensures.ok.0 c.in-Ok.ensures.ok.1;
  parts = c.in_ok-parts.ensures.ok.of_grammar;
}

pub returns-in-Err-clause-refused : goal.returns-in-Err-clause-refused
returns-in-Err-clause-refused g c =
    attributes_refused c.args.resolved.now c.args.operations.now.signatures c.in_ok-check_kinds.ensures.ok
    c.in_ok-parts.ensures.ok.deterministic c.in-Err.refusal
    c.in-Err.ensures.refused
