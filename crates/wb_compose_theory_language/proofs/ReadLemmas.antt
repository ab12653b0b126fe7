-- What terminals and layout of the union match is what they match where they are from.
use Rattle.std.proofs.Common.{◌≡◌, ◌≢◌, ◌∙◌, ℕ, List, Some, slice_get, sym, ap, subst, inl, inr}
use Rattle.std.proofs.lemmas.Bool.{cases_eq}
use Rattle.std.proofs.lemmas.Option.{same_Some}
use Rattle.wb_automata.specs.Automata.{IsMatch}
use Rattle.wb_base.specs.Grammar.{GrammarView}
use Rattle.wb_determinism_contexts.specs.Considered.{LexiconView}
use Rattle.wb_compose_theory_grammar.specs.Pieces.{ArePieces}
use Rattle.wb_compose_theory_language.specs.Written.{WrittenPiece, pieces_of, row_up}
use Rattle.wb_compose_theory_language.specs.Apart.{AreWrittenApart}
use Rattle.wb_compose_theory_language.specs.Rows.{Reads, host_row, of_extension, of_host, piece_row}
use Rattle.wb_compose_theory_language.proofs.RowLemmas.{host_once, other_not_own, own_decided, row_once, up_of_other, up_row}
use Rattle.wb_compose_theory_language.proofs.PreferenceLemmas.{apart_at}

module _ (host : GrammarView) (extensible : List ℕ) (own : LexiconView) (written : List WrittenPiece)
    (ok : ArePieces host extensible (pieces_of written)) (apart : AreWrittenApart host extensible own written) where
  -- the text of a terminal or layout of the host
  pub reads_host : (t : ℕ) (text : List ℕ) → Reads host extensible own written (host_row host extensible own written t) text →
      IsMatch own.expressions t text
  reads_host t text (of_host a is matches) =
      subst (λ z. IsMatch own.expressions z text) (sym (host_once host extensible own written ok t a is)) matches
  reads_host t text (of_extension k x a at is matches) =
      let a_is = row_once host extensible own written ok k x at (row_up host own x t) a (up_row host extensible own written ok k x at t ∙ is) in
      ((apart_at host extensible own written ok apart k x at).beside.matches t text).1
      (subst (λ z. IsMatch x.lexicon.expressions z text) (sym a_is) matches)

  module _ (k : ℕ) (x : WrittenPiece) (at : slice_get written k ≡ Some x) where
    -- the host's, in the numbers of an extension with it
    up_matches : (a t : ℕ) (text : List ℕ) →
        piece_row host extensible own written k x a ≡ host_row host extensible own written t → IsMatch own.expressions t text →
        IsMatch x.lexicon.expressions a text
    up_matches a t text same matches =
        let a_is = row_once host extensible own written ok k x at a (row_up host own x t)
        (same ∙ sym (up_row host extensible own written ok k x at t)) in
        subst (λ z. IsMatch x.lexicon.expressions z text) (sym a_is)
        (((apart_at host extensible own written ok apart k x at).beside.matches t text).0 matches)

    -- another extension's is the host's
    other_matches : (l : ℕ) (y : WrittenPiece) → slice_get written l ≡ Some y → k ≢ l → (a b : ℕ) (text : List ℕ) →
        piece_row host extensible own written k x a ≡ piece_row host extensible own written l y b →
        IsMatch y.lexicon.expressions b text → IsMatch x.lexicon.expressions a text
    other_matches l y there differ a b text same matches = elim (own_decided host extensible own written ok y b) [
      | inl mine ↦ absurd (other_not_own host extensible own written ok l k y x there at (λ e. differ (sym e)) b a mine same)
      | inr other ↦
          let (c, c_is) = up_of_other host extensible own written ok l y there b other in
          up_matches a c text
          (same ∙ (ap (piece_row host extensible own written l y) c_is ∙ up_row host extensible own written ok l y there c))
          (((apart_at host extensible own written ok apart l y there).beside.matches c text).1
          (subst (λ z. IsMatch y.lexicon.expressions z text) c_is matches))
    ]

    -- the text of a terminal or layout of an extension with the host
    pub reads_piece : (a : ℕ) (text : List ℕ) → Reads host extensible own written (piece_row host extensible own written k x a) text →
        IsMatch x.lexicon.expressions a text
    reads_piece a text (of_host t is matches) = up_matches a t text is matches
    reads_piece a text (of_extension l y b there is matches) = elim (cases_eq k l) [
      | inl same ↦ equal same
      | inr differ ↦ other_matches l y there differ a b text is matches
    ]
      where
        equal : k ≡ l → IsMatch x.lexicon.expressions a text
        equal same =
            let y_is : y ≡ x = same_Some y x (sym there ∙ (ap (slice_get written) (sym same) ∙ at)) in
            let rows_are : piece_row host extensible own written l y ≡ piece_row host extensible own written k x =
            λ z. piece_row host extensible own written (back z) (y_is z) in
            let a_is = row_once host extensible own written ok k x at a b (is ∙ ap (λ f. f b) rows_are) in
            subst (λ z. IsMatch x.lexicon.expressions z text) (sym a_is)
            (subst (λ (z : WrittenPiece). IsMatch z.lexicon.expressions b text) y_is matches)
          where
            back : l ≡ k
            back = sym same
