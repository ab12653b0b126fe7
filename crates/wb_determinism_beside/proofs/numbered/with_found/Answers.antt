use Rattle.std.proofs.Common.{◌≡◌, ◌∙◌, Bool, ap, subst, sym}
use Rattle.std.specs.Prelude.{IsTrue}
use Rattle.std.proofs.lemmas.Result.{IfOk-weaker}
use Rattle.wb_determinism_contexts.specs.Sets.{FitsGrammar}
use Rattle.wb_determinism_host.specs.Lexicons.{lexicon_of}
use Rattle.wb_syntax_resolved.specs.declared.resolved.ResolvedParts.{ResolvedParts}
use Rattle.wb_determinism_beside.specs.Inner.Asking.{Answer, asked_in}
use Rattle.wb_determinism_beside.specs.Inner.Found.{IsClearAtNew, both_in, lexicon_for}
use Rattle.wb_determinism_beside.proofs.AskedLemmas.{answer_is, scanned_fits}
use Rattle.wb_determinism_beside.proofs.numbered.with_found.Goals as goal

pub is_clear-requires-clause-fits : goal.is_clear-requires-clause-fits
is_clear-requires-clause-fits c =
    let x = c.args.fit.now in
    let same : lexicon_for c.parts-parts.result.now c.terminals.result ≡ lexicon_of (asked_in x).resolved.now (asked_in x).grammar.now =
    ap (λ (p : ResolvedParts). lexicon_for p c.terminals.result) c.parts-parts.ensures.parts
    ∙ ap (lexicon_for (asked_in x).resolved.now) c.terminals.ensures in
    subst (FitsGrammar (both_in c.args.found.now).terminals) (sym same)
    (scanned_fits x c.requires.fit c.args.found.now.beside.now c.requires.found.beside)

pub returns : goal.returns
returns c =
    let x = c.args.fit.now in
    let y = c.args.found.now in
    let same : lexicon_for c.parts-parts.result.now c.terminals.result ≡ lexicon_of (asked_in x).resolved.now (asked_in x).grammar.now =
    ap (λ (p : ResolvedParts). lexicon_for p c.terminals.result) c.parts-parts.ensures.parts
    ∙ ap (lexicon_for (asked_in x).resolved.now) c.terminals.ensures in
    IfOk-weaker c.is_clear.result
    (λ (answer : Bool). IsTrue answer → IsClearAtNew y (lexicon_for c.parts-parts.result.now c.terminals.result))
    (λ (answer : Bool). IsTrue answer → Answer (asked_in x))
    (λ (answer : Bool) holds yes. answer_is x c.requires.fit y c.requires.found (c.are_foreign.ensures c.if-not-are_foreign.false)
    (subst (IsClearAtNew y) same (holds yes))) c.is_clear.ensures
