-- Of each layout of the union there are the productions by which it is considered.
use Rattle.std.proofs.Common.{◌≡◌, ◌+◌, ◌∙◌, ℕ, List, Option, Some, None, slice_get, refl, sym, ap, inl, inr}
use Rattle.std.specs.List.{range_with_len}
use Rattle.std.proofs.lemmas.Bool.{cases_eq}
use Rattle.std.proofs.lemmas.Option.{same_Some}
use Rattle.wb_base.specs.Grammar.{GrammarView}
use Rattle.wb_determinism_contexts.specs.Considered.{LexiconView}
use Rattle.wb_lemmas.proofs.NotNot.{certain, choose, follows}
use Rattle.wb_compose_theory_grammar.specs.Pieces.{ArePieces}
use Rattle.wb_compose_theory_grammar.specs.UnitedWorlds.{united}
use Rattle.wb_compose_theory_language.specs.Written.{IsHostLayoutRow, IsOwnLayoutRow, WrittenPiece, host_layouts, pieces_of}
use Rattle.wb_compose_theory_language.specs.Rows.{host_row, layout_count, piece_row}
use Rattle.wb_compose_theory_language.specs.Languages.{AreSpans, span_of}
use Rattle.wb_compose_theory_language.proofs.DecidedLemmas.{range_at}
use Rattle.wb_compose_theory_language.proofs.LayoutLemmas.{Layout, hosts, layout_of, owned}
use Rattle.wb_compose_theory_language.proofs.RowLemmas.{host_not_own, other_not_own}

module _ (host : GrammarView) (extensible : List ℕ) (own : LexiconView) (written : List WrittenPiece)
    (ok : ArePieces host extensible (pieces_of written)) where
  abbrev count : ℕ
  count = (united host extensible (pieces_of written)).terminals

  -- the productions of the layout of this number
  record IsSpan (number : ℕ) (span : Option (ℕ × ℕ)) : Type 0 where
    of_host : (t : ℕ) → IsHostLayoutRow host.terminals (host_layouts host own) t → number ≡ host_row host extensible own written t →
        span ≡ None
    of_extension : (k : ℕ) (x : WrittenPiece) (t : ℕ) → slice_get written k ≡ Some x → IsOwnLayoutRow host own x t →
        number ≡ piece_row host extensible own written k x t → span ≡ Some (span_of host extensible own written k x)

  span_for : (number : ℕ) → Layout host extensible own written ok number → (span : Option (ℕ × ℕ)) × IsSpan number span
  span_for number (hosts t is number_is) = (
    None,
    record {
      of_host = λ u also there. refl;
      of_extension = λ k x u at mine there. absurd (host_not_own host extensible own written ok k x at u t (inr mine)
          (sym number_is ∙ there));
    },
  )
  span_for number (owned k x t at mine number_is) = (
    Some (span_of host extensible own written k x),
    record {
      of_host = λ u also there. absurd (host_not_own host extensible own written ok k x at t u (inr mine) (sym there ∙ number_is));
      of_extension = λ l y u at' mine' there. elim (cases_eq k l) [
        | inl same ↦
            let y_is : y ≡ x = same_Some y x (sym at' ∙ (ap (slice_get written) (sym same) ∙ at)) in
            λ z. Some (span_of host extensible own written (same z) (sym y_is z))
        | inr differ ↦ absurd (other_not_own host extensible own written ok k l x y at at' differ t u (inr mine)
            (sym there ∙ number_is))
      ];
    },
  )

  -- those of all layouts
  pub spans_exist : ¬ ¬ ((spans : List (Option (ℕ × ℕ))) × AreSpans host extensible own written
      (range_with_len count (layout_count host extensible own written)) spans)
  spans_exist =
      follows (choose (layout_count host extensible own written) None (λ j span. IsSpan (count + j) span)
      (λ j less. certain (span_for (count + j) (layout_of host extensible own written ok j less))))
      (λ c. (
        c.list,
        record {
          of_host = λ place t is at.
              (let (here, less) = range_at count (layout_count host extensible own written) place
              (host_row host extensible own written t) at in
              (c.each place less).of_host t is (sym here));
          of_extension = λ place k x t listed mine at.
              (let (here, less) = range_at count (layout_count host extensible own written) place
              (piece_row host extensible own written k x t) at in
              (c.each place less).of_extension k x t listed mine (sym here));
        },
      ))
