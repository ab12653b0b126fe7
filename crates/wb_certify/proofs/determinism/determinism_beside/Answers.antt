use Rattle.std.proofs.lemmas.Result.{IfErr-weaker, IfOk-weaker}
use Rattle.std.specs.Prelude.{IfSome}
use Rattle.wb_base.specs.Grammar.{GrammarView}
use Rattle.wb_determinism_beside.specs.DeterministicExtensions.{IsDeterministicExtension}
use Rattle.wb_determinism_beside.specs.ExtensionDeterminism.{IsExtensionRefusal}
use Rattle.wb_certify_host.specs.determinism_refusal.DeterminismRefusal.{DeterminismRefusal}
use Rattle.wb_lemmas.proofs.Refusals.{handed_on}
use Rattle.wb_certify.specs.Tests.{IsMarkReason}
use Rattle.wb_certify.specs.Inner.Tests.{IsReasonBeside}
use Rattle.wb_certify.specs.Beside.{AreClearBeside}
use Rattle.wb_certify.proofs.BesideLemmas.{with_some}
use Rattle.wb_certify.proofs.DeterminismLemmas.{asked_beside, clear_beside, whole_reason}
use Rattle.wb_certify.proofs.determinism.determinism_beside.Goals as goal

pub returns-in_err-test_marks-clause-refused : goal.returns-in_err-test_marks-clause-refused
returns-in_err-test_marks-clause-refused c =
    handed_on (IsMarkReason c.args.resolved.now) (IsReasonBeside c.args.resolved.now c.args.host.now.grammar) c.from_residual.result
    c.in_err-test_marks.field-0.0 c.from_residual.ensures.1 (λ refusal reason g start. reason g c.args.host.now.grammar start)
    c.in_err-test_marks.ensures.refused

pub is_deterministic_beside-requires-clause-asked : goal.is_deterministic_beside-requires-clause-asked
is_deterministic_beside-requires-clause-asked c =
    asked_beside c.args.resolved.now c.args.host.now c.requires.of_host c.in_ok-test_marks.ensures.ok c.in_ok-test_marks.ensures.acyclic

pub returns-then-seen-clause-ok : goal.returns-then-seen-clause-ok
returns-then-seen-clause-ok c =
    clear_beside c.args.resolved.now c.args.host.now.grammar c.in_ok-test_marks.ensures.ok (c.in_ok-seen.ensures c.if-seen.true)

pub returns-clause-ok : goal.returns-clause-ok
returns-clause-ok c =
    let r = c.args.resolved.now in
    let host = c.args.host.now.grammar in
    IfOk-weaker c.test_whole.result (λ done. IfSome r.grammar (λ (g : GrammarView). IsDeterministicExtension r g host))
    (λ done. AreClearBeside r host) (λ done is. clear_beside r host c.in_ok-test_marks.ensures.ok is) c.test_whole.ensures.ok

pub returns-clause-refused : goal.returns-clause-refused
returns-clause-refused c =
    let r = c.args.resolved.now in
    let host = c.args.host.now.grammar in
    IfErr-weaker c.test_whole.result
    (λ (refusal : DeterminismRefusal). IfSome r.grammar (λ (g : GrammarView). IsExtensionRefusal r g host refusal))
    (IsReasonBeside r host) (whole_reason r host c.in_ok-test_marks.ensures.ok) c.test_whole.ensures.refused
