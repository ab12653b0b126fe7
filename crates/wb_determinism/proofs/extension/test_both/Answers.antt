use Rattle.std.proofs.lemmas.Result.{IfOk-weaker, IfErr-weaker}
use Rattle.wb_lemmas.proofs.Refusals.{handed_on}
use Rattle.wb_determinism.specs.Extensions.{IsDeterministicExtension}
use Rattle.wb_determinism.specs.Refusals.{IsExtensionRefusal}
use Rattle.wb_determinism.specs.Inner.Extended.{IsEnvelopeRefusal, IsLookaheadRefusal, MeetsEnvelope, lexicon_for}
use Rattle.wb_determinism.proofs.ExtensionLemmas.{deterministic, envelope_refusal, lookahead_refusal}
use Rattle.wb_determinism.proofs.extension.test_both.Goals as goal

pub returns-in_err-test_lookaheads-clause-refused : goal.returns-in_err-test_lookaheads-clause-refused
returns-in_err-test_lookaheads-clause-refused c =
    let x = c.args.extended.now in
    handed_on (IsLookaheadRefusal c.args.context.now)
    (IsExtensionRefusal x.parts.now x.grammar.now x.host.now.grammar) c.from_residual.result
    c.in_err-test_lookaheads.field-0.0 c.from_residual.ensures.1
    (lookahead_refusal x c.args.context.now c.requires.extended c.requires.context)
    c.in_err-test_lookaheads.ensures.refused

pub returns-clause-refused : goal.returns-clause-refused
returns-clause-refused c =
    let x = c.args.extended.now in
    IfErr-weaker c.test_envelopes.result
    (IsEnvelopeRefusal c.args.context.now (lexicon_for x.parts.now c.args.context.now.numbers.now.own_terminals))
    (IsExtensionRefusal x.parts.now x.grammar.now x.host.now.grammar)
    (envelope_refusal x c.args.context.now c.requires.extended c.requires.context c.in_ok-test_lookaheads.ensures.ok)
    c.test_envelopes.ensures.refused

pub returns-clause-ok : goal.returns-clause-ok
returns-clause-ok c =
    let x = c.args.extended.now in
    IfOk-weaker c.test_envelopes.result
    (λ done. MeetsEnvelope c.args.context.now (lexicon_for x.parts.now c.args.context.now.numbers.now.own_terminals))
    (λ done. IsDeterministicExtension x.parts.now x.grammar.now x.host.now.grammar)
    (λ done meets. deterministic x c.args.context.now c.requires.extended c.requires.context c.in_ok-test_lookaheads.ensures.ok meets)
    c.test_envelopes.ensures.ok
