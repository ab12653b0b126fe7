use Rattle.std.proofs.Common.{Bool, subst, sym}
use Rattle.std.specs.Prelude.{IsTrue}
use Rattle.std.proofs.lemmas.Result.{IfOk-weaker}
use Rattle.wb_determinism_contexts.specs.Considered.{LexiconView}
use Rattle.wb_determinism_contexts.specs.Sets.{FitsGrammar, lent}
use Rattle.wb_determinism_host.proofs.LayoutLemmas.{nobody_empty}
use Rattle.wb_termset.specs.Sets.{IsEmpty}
use Rattle.wb_determinism_beside.specs.Inner.Found.{IsClearAtNew, both_in, lexicon_for}
use Rattle.wb_determinism_beside.proofs.clear.is_clear_for.Goals as goal

pub is_clear_by-answer-requires-clause-fits : goal.is_clear_by-answer-requires-clause-fits
is_clear_by-answer-requires-clause-fits c =
    subst (FitsGrammar (both_in c.args.found.now).terminals) (sym c.requires.lexicon) c.requires.fits

pub is_clear_by-answer-requires-clause-none_own : goal.is_clear_by-answer-requires-clause-none_own
is_clear_by-answer-requires-clause-none_own c =
    subst (λ (v : LexiconView). IsEmpty v.own_layout) (sym c.requires.lexicon) (nobody_empty c.args.parts.now.terminals)

pub returns : goal.returns
returns c =
    let x = c.args.found.now in
    IfOk-weaker c.is_clear_by-answer.result (λ (answer : Bool). IsTrue answer → IsClearAtNew x (lent c.args.lexicon.now))
    (λ (answer : Bool). IsTrue answer → IsClearAtNew x (lexicon_for c.args.parts.now c.args.scanned))
    (λ (answer : Bool) holds yes. subst (IsClearAtNew x) c.requires.lexicon (holds yes)) c.is_clear_by-answer.ensures
