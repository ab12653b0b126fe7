-- The productions by which each layout of a union is considered, one after another.
use Rattle.std.proofs.Common.{◌≡◌, ◌+◌, ◌∙◌, ℕ, List, Option, Some, None, slice_get, refl, sym, ap, inl, inr}
use Rattle.std.specs.List.{range_with_len}
use Rattle.std.proofs.lemmas.Bool.{cases_eq}
use Rattle.std.proofs.lemmas.Option.{same_Some}
use Rattle.wb_base.specs.Grammar.{GrammarView}
use Rattle.wb_determinism_contexts.specs.Considered.{LexiconView}
use Rattle.wb_lemmas.proofs.NotNot.{Chosen}
use Rattle.wb_compose_theory_grammar.specs.Pieces.{ArePieces}
use Rattle.wb_compose_theory_grammar.specs.UnitedWorlds.{united}
use Rattle.wb_compose_theory_language.specs.Written.{IsHostLayoutRow, IsOwnLayoutRow, WrittenPiece, host_layouts, pieces_of}
use Rattle.wb_compose_theory_language.specs.Rows.{host_row, layout_count, piece_row}
use Rattle.wb_compose_theory_language.specs.Languages.{AreSpans, span_of}
use Rattle.wb_compose_theory_language.proofs.DecidedLemmas.{range_at}
use Rattle.wb_compose_theory_language.proofs.LayoutLemmas.{Layout, hosts, layout_of, owned}
use Rattle.wb_compose_theory_language.proofs.RowLemmas.{host_not_own, other_not_own}
use Rattle.wb_program_theory.proofs.ChosenLists.{listed}

module _ (host : GrammarView) (extensible : List ℕ) (own : LexiconView) (written : List WrittenPiece)
    (ok : ArePieces host extensible (pieces_of written)) where
  abbrev first : ℕ
  first = (united host extensible (pieces_of written)).terminals

  abbrev layouts : ℕ
  layouts = layout_count host extensible own written

  -- the productions of the layout of this number
  pub record IsSpan (number : ℕ) (span : Option (ℕ × ℕ)) : Type 0 where
    pub of_host : (t : ℕ) → IsHostLayoutRow host.terminals (host_layouts host own) t → number ≡ host_row host extensible own written t →
        span ≡ None
    pub of_extension : (k : ℕ) (x : WrittenPiece) (t : ℕ) → slice_get written k ≡ Some x → IsOwnLayoutRow host own x t →
        number ≡ piece_row host extensible own written k x t → span ≡ Some (span_of host extensible own written k x)

  span_for : (number : ℕ) → Layout host extensible own written ok number → (span : Option (ℕ × ℕ)) × IsSpan number span
  span_for number (hosts t is number_is) = (
    None,
    record {
      of_host = λ u also there. refl;
      of_extension = λ k x u at mine there. absurd (host_not_own host extensible own written ok k x at u t (inr mine)
          (sym number_is ∙ there));
    },
  )
  span_for number (owned k x t at mine number_is) = (
    Some (span_of host extensible own written k x),
    record {
      of_host = λ u also there. absurd (host_not_own host extensible own written ok k x at t u (inr mine) (sym there ∙ number_is));
      of_extension = λ l y u at' mine' there. elim (cases_eq k l) [
        | inl same ↦
            let y_is : y ≡ x = same_Some y x (sym at' ∙ (ap (slice_get written) (sym same) ∙ at)) in
            λ z. Some (span_of host extensible own written (same z) (sym y_is z))
        | inr differ ↦ absurd (other_not_own host extensible own written ok k l x y at at' differ t u (inr mine)
            (sym there ∙ number_is))
      ];
    },
  )

  -- those of all layouts
  pub spans_in : Chosen layouts None (λ j span. IsSpan (first + j) span)
  spans_in = listed layouts None (λ j span. IsSpan (first + j) span)
      (λ j less. span_for (first + j) (layout_of host extensible own written ok j less))

  pub are_spans : AreSpans host extensible own written (range_with_len first layouts) spans_in.list
  are_spans = record {
    of_host = λ place t is at.
        (let (here, less) = range_at first layouts place (host_row host extensible own written t) at in
        (spans_in.each place less).of_host t is (sym here));
    of_extension = λ place k x t at_k mine at.
        (let (here, less) = range_at first layouts place (piece_row host extensible own written k x t) at in
        (spans_in.each place less).of_extension k x t at_k mine (sym here));
  }
