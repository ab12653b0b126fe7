use Rattle.std.proofs.Common.{ap, subst}
use Rattle.std.proofs.lemmas.Result.{IfOk-weaker, IfErr-weaker}
use Rattle.wb_determinism_contexts.specs.Considered.{LexiconView}
use Rattle.wb_determinism_contexts.specs.Sets.{lent}
use Rattle.wb_determinism.specs.EnvelopeClash.{HasNoEnvelopeClash}
use Rattle.wb_determinism.specs.Inner.Clashes.{IsClashRefusal}
use Rattle.wb_determinism.specs.Inner.Contexts.{both_of, host_of}
use Rattle.wb_determinism.specs.Inner.Extended.{IsEnvelopeRefusal, MeetsEnvelope, lexicon_for}
use Rattle.wb_determinism.proofs.ClashLemmas.{keeps_in_envelope, no_envelope_conflict}
use Rattle.wb_determinism.proofs.ExtensionLemmas.{clash_refusal}
use Rattle.wb_determinism.proofs.rules.test_with_lexicon.Goals as goal

pub test_clashes-requires-clause-scanned : goal.test_clashes-requires-clause-scanned
test_clashes-requires-clause-scanned c = ap (λ (v : LexiconView). v.scanned) c.requires.lexicon

pub returns-clause-ok : goal.returns-clause-ok
returns-clause-ok c =
    let x = c.args.context.now in
    let lexicon = lexicon_for c.args.parts.now x.numbers.now.own_terminals in
    IfOk-weaker c.test_clashes.result
    (λ done. HasNoEnvelopeClash (host_of x) (both_of x) x.numbers.now (lent c.args.lexicon.now)) (λ done. MeetsEnvelope x lexicon)
    (λ done clear. record {
      keeps = keeps_in_envelope x c.requires.context c.args.lexicon.now.layout.now c.args.sets.now c.requires.sets;
      no_conflict = no_envelope_conflict x c.requires.context c.args.lexicon.now.layout.now c.args.sets.now c.requires.sets;
      clear = subst (HasNoEnvelopeClash (host_of x) (both_of x) x.numbers.now) c.requires.lexicon clear;
    }) c.test_clashes.ensures.ok

pub returns-clause-refused : goal.returns-clause-refused
returns-clause-refused c =
    let x = c.args.context.now in
    let lexicon = lexicon_for c.args.parts.now x.numbers.now.own_terminals in
    IfErr-weaker c.test_clashes.result (IsClashRefusal x (lent c.args.lexicon.now)) (IsEnvelopeRefusal x lexicon)
    (λ refusal shown. clash_refusal x lexicon refusal (subst (λ (v : LexiconView). IsClashRefusal x v refusal) c.requires.lexicon shown))
    c.test_clashes.ensures.refused
