-- How edits go on one after another, and what has come at their end.
use Rattle.std.proofs.Common.{◌≡◌, ◌∙◌, ◌<◌, ◌≤◌, ◌+◌, ◌++◌, ◌∷◌, [], ℕ, zero, suc, List, Some, length, length-append, take, slice_get, inl}
use Rattle.std.proofs.Common.{inr, refl, sym, ap, subst, arith}
use Rattle.std.proofs.lemmas.Bool.{cases_lt}
use Rattle.std.proofs.lemmas.Option.{same_Some, slice_get_within}
use Rattle.wb_lemmas.proofs.Places.{at_once, at_one, at_push}
use Rattle.wb_scan_theory.specs.Languages.{LanguageView}
use Rattle.wb_session.specs.Sessions.{MakesText}
use Rattle.wb_session_edits.specs.declared.edit.Edit.{Edit}
use Rattle.wb_session.specs.Edits.{edited}
use Rattle.wb_values.specs.Signature.{Signature}
use Rattle.wb_compose_texts.specs.EditAnswers.{AreLinesOf, IsEditsAnswerIn, IsLineOf}
use Rattle.wb_compose_texts.specs.Edited.{after, AreDone, IsDone}
use Rattle.wb_compose_texts.specs.Inner.Gathered.{AreGathered, HasOneMore, IsShown}
use Rattle.wb_compose_texts.specs.Inner.Walks.{HasCome, IsBefore}
use Rattle.wb_compose_texts.specs.declared.edits_answer.EditsAnswer.{EditsAnswer}
use Rattle.wb_compose_texts.specs.declared.edits_answer.EditsAnswer.TheVariants as a
use Rattle.wb_compose_texts.specs.declared.lines.Lines.{Lines}

-- by one more edit a text is made of the one before
pub after-suc : (text : List ℕ) (edits : List Edit) (i : ℕ) (e : Edit) → slice_get edits i ≡ Some e →
    after text (take (suc i) edits) ≡ edited (after text (take i edits)) e.from e.to e.bytes
after-suc text [] i e at = cc
after-suc text (x ∷ edits) zero e at = ap (λ (z : Edit). edited text z.from z.to z.bytes) (same_Some x e at)
after-suc text (x ∷ edits) (suc i) e at = after-suc (edited text x.from x.to x.bytes) edits i e at

module _ (names : List (List ℕ)) (signatures : List Signature) (l : LanguageView) (text : List ℕ) (edits : List Edit) where
  -- before the first edit there is the text's own line
  pub come_first : (made : Lines) → HasOneMore names signatures l text [] made → HasCome names signatures l text edits 0 text made
  come_first made one = record {
    done = λ j within. absurd (omega (arith, within));
    is = refl;
    lines = one.line ∷ [];
    many = refl;
    each = λ i line at.
        let first = at_one one.line line i at in
        subst (λ z. IsLineOf names signatures l (after text (take z edits)) line) (sym first.0)
        (subst (IsLineOf names signatures l text) first.1 one.is);
    gathered = one.gathered;
  }

  module _ (count : ℕ) (e : Edit) (now then : List ℕ) (old made : Lines) (come : HasCome names signatures l text edits count now old)
      (at : slice_get edits count ≡ Some e) (makes : MakesText now e.from e.to e.bytes then)
      (one : HasOneMore names signatures l then come.lines made) where
    then_is : then ≡ after text (take (suc count) edits)
    then_is =
        makes.is ∙ (ap (λ z. edited z e.from e.to e.bytes) come.is ∙ sym (after-suc text edits count e at))

    done_here : IsDone text edits count
    done_here f there =
        let same : e ≡ f = at_once edits count e f at there in
        subst (λ (z : Edit). MakesText (after text (take count edits)) z.from z.to z.bytes (after text (take (suc count) edits))) same
        (subst (λ z. MakesText z e.from e.to e.bytes (after text (take (suc count) edits))) come.is
        (subst (λ z. MakesText now e.from e.to e.bytes z) then_is makes))

    done_before : (j : ℕ) → j < suc count → IsDone text edits j
    done_before j within = elim (cases_lt j count) [
      | inl earlier ↦ come.done j earlier
      | inr last ↦
          let same : count ≡ j = omega (arith, within, last) in
          subst (IsDone text edits) same done_here
    ]

    each_line : (i : ℕ) (line : List ℕ) → slice_get (come.lines ++ one.line ∷ []) i ≡ Some line →
        IsLineOf names signatures l (after text (take i edits)) line
    each_line i line there = elim (at_push come.lines one.line line i there) [
      | inl old_one ↦ come.each i line old_one
      | inr (last, same) ↦
          let place : suc count ≡ i = sym (last ∙ come.many) in
          subst (λ z. IsLineOf names signatures l (after text (take z edits)) line) place
          (subst (λ z. IsLineOf names signatures l z line) then_is (subst (IsLineOf names signatures l then) same one.is))
    ]

    come_suc : HasCome names signatures l text edits (suc count) then made
    come_suc =
        let many = length-append come.lines (one.line ∷ []) in
        let before = come.many in
        record {
          done = done_before;
          is = then_is;
          lines = come.lines ++ one.line ∷ [];
          many = omega (arith, many, before);
          each = each_line;
          gathered = one.gathered;
        }

    -- after one more, its line is there too
    pub come_more : HasCome names signatures l text edits (count + 1) then made
    come_more =
        let same : suc count ≡ count + 1 = omega arith in
        subst (λ z. HasCome names signatures l text edits z then made) same come_suc

  -- the edit at a place meets the text to which those before it have come
  pub come_before : (count : ℕ) (e : Edit) (now : List ℕ) (made : Lines) → HasCome names signatures l text edits count now made →
      slice_get edits count ≡ Some e → IsBefore text edits count e now
  come_before count e now made come at = record { is = at; done = come.done; made = come.is }

  -- at the end all are done, and the lines are those of all texts on the way
  pub come_all : (now : List ℕ) (made : Lines) (answer : EditsAnswer) →
      HasCome names signatures l text edits (length edits) now made →
      ((lines : List (List ℕ)) → AreGathered made lines → IsShown lines answer) →
      IsEditsAnswerIn names signatures l text edits answer
  come_all now made answer come shown = by_answer answer (shown come.lines come.gathered)
    where
      all_done : AreDone text edits
      all_done i e at = come.done i (slice_get_within edits i e at) e at

      are : AreLinesOf names signatures l text edits come.lines
      are = record { many = come.many; each = come.each }

      by_answer : (answer : EditsAnswer) → IsShown come.lines answer → IsEditsAnswerIn names signatures l text edits answer
      by_answer (a.Lines bytes) is = record {
        done = all_done;
        lines = come.lines;
        are = are;
        is = is.0;
        short = subst (λ z. length z ≤ 16777216) (sym is.0) is.1;
      }
      by_answer a.TooLong is = record { done = all_done; lines = come.lines; are = are; long = is }
      by_answer (a.OutOfRange number) is = absurd is
      by_answer (a.TextTooLong number) is = absurd is
