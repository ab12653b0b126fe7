-- The productions by which each layout of the union is considered, as they are listed.
use Rattle.std.proofs.Common.{◌≡◌, ◌∙◌, ◌<◌, ◌≤◌, ◌+◌, ◌-◌, ◌++◌, [], ℕ, List, Option, Some, None, inl, inr, length, slice_get}
use Rattle.std.proofs.Common.{refl, replicate, sym, ap, subst, arith, length-append}
use Rattle.std.specs.List.{range_with_len}
use Rattle.std.specs.Prelude.{slice_index_or}
use Rattle.std.proofs.lemmas.Bool.{cases_eq}
use Rattle.std.proofs.lemmas.List.{get_or-replicate, length-replicate}
use Rattle.std.proofs.lemmas.Option.{get_or_from_slice_get, same_Some, slice_get_within}
use Rattle.wb_lemmas.proofs.Elements.{all_at}
use Rattle.wb_lemmas.proofs.Places.{at_append, at_default}
use Rattle.wb_compose_theory_grammar.specs.Pieces.{Extends}
use Rattle.wb_compose_theory_grammar.specs.Places.{count_before}
use Rattle.wb_compose_theory_grammar.specs.Unions.{added_productions}
use Rattle.wb_compose_theory_grammar.specs.UnitedWorlds.{production_sizes}
use Rattle.wb_compose_theory_grammar.proofs.FactLemmas.{size_at}
use Rattle.wb_compose_theory_layout.specs.Extensions.{first_of}
use Rattle.wb_compose_theory_language.specs.Languages.{AreSpans, span_of}
use Rattle.wb_compose_theory_language.specs.Rows.{host_row, piece_row}
use Rattle.wb_compose_theory_language.specs.Written.{pieces_of}
use Rattle.wb_compose_theory_language.proofs.DecidedLemmas.{range_at}
use Rattle.wb_compose_theory_language.proofs.RowLemmas.{host_not_own, host_past, other_not_own, piece_there}
use Rattle.wb_compose_language.specs.declared.addition.Addition.{Addition}
use Rattle.wb_compose_language.specs.declared.addition.Lent.{Lent}
use Rattle.wb_compose_language.specs.Expressions.{layout_in}
use Rattle.wb_compose_language.specs.Inner.Layouts.{AreSpansBelow, IsSpan, hosts_in, layout_at, layout_sizes_in, layouts_in, owns_in}
use Rattle.wb_compose_language.specs.Inner.Opened.{union_terminals}
use Rattle.wb_compose_language.specs.Lents.{IsUnitable, all_in, own_in, written_beside}
use Rattle.wb_compose_language.proofs.KindLemmas.{listed}
use Rattle.wb_compose_language.proofs.LayoutLemmas.{layouts_end, own_begin, own_first, own_next, own_place, own_row}
use Rattle.wb_compose_language.specs.Additions.{grammar_in}
use Rattle.wb_compose_language.proofs.UnionLemmas.{extends_all}
use Rattle.wb_compose_language.proofs.WholeLemmas.{count_all, count_more, count_none}

-- where a value is that is there so many times
at_replicate : {X : Type 0} (n i : ℕ) (x y : X) → slice_get (replicate n x) i ≡ Some y → (i < n) × (x ≡ y)
at_replicate n i x y at =
    let within = slice_get_within (replicate n x) i y at in
    let len = length-replicate n x in
    let less : i < n = omega (arith, within, len) in
    (less, sym (get_or-replicate n i x x less) ∙ get_or_from_slice_get (replicate n x) i y x at)

module _ (lent : Lent) where
  -- where an extension's productions begin
  abbrev pub first_in : ℕ → ℕ
  first_in k = first_of lent.grammar.now lent.extensible.now (pieces_of (all_in lent)) k

  -- at the end of the host's
  pub first_none : first_in 0 ≡ length lent.grammar.now.productions
  first_none =
      let e = count_none (production_sizes lent.grammar.now lent.extensible.now (pieces_of (all_in lent))) in omega (arith, e)

  module _ (ok : IsUnitable lent) where
    -- none are given for the host's layout
    host_span : (j : ℕ) → j < hosts_in lent → IsSpan lent (layout_at lent j) None
    host_span j less = record {
      of_host = λ t is there. refl;
      of_extension = λ k x t at mine there. absurd (host_not_own lent.grammar.now lent.extensible.now (own_in lent) (all_in lent)
          ok.certified.are_pieces k x at t (lent.grammar.now.terminals + j) (inr mine) (here ∙ there));
    }
      where
        here : host_row lent.grammar.now lent.extensible.now (own_in lent) (all_in lent) (lent.grammar.now.terminals + j) ≡ layout_at lent j
        here =
            let e = host_past lent.grammar.now lent.extensible.now (own_in lent) (all_in lent) ok.certified.are_pieces j less in
            omega (arith, e)

    -- of the host's layout
    pub spans_first : (none_yet spans : List (Option (ℕ × ℕ))) → none_yet ≡ [] → spans ≡ none_yet ++ replicate (hosts_in lent) None →
        AreSpansBelow lent (hosts_in lent + count_before (layout_sizes_in lent) 0) spans
    spans_first none_yet spans nothing is =
        subst (AreSpansBelow lent (hosts_in lent + count_before (layout_sizes_in lent) 0))
        (sym (is ∙ ap (λ z. z ++ replicate (hosts_in lent) None) nothing)) (record {
          len = (let a = length-replicate {A = Option (ℕ × ℕ)} (hosts_in lent) None in let b = count_none (layout_sizes_in lent) in
              omega (arith, a, b));
          each = λ j span at. (let (less, same) = at_replicate (hosts_in lent) j None span at in
              subst (IsSpan lent (layout_at lent j)) same (host_span j less));
        })

    module _ (k : ℕ) (x : Addition) (at : slice_get lent.extensions.now k ≡ Some x) where
      -- the productions of the extension
      abbrev span_in : ℕ × ℕ
      span_in = span_of lent.grammar.now lent.extensible.now (own_in lent) (all_in lent) k (written_beside lent x)

      -- those that it adds are given for its own layout
      own_span : (i : ℕ) → i < owns_in lent x → IsSpan lent (layout_at lent (own_begin lent ok k x at + i)) (Some span_in)
      own_span i less = record {
        of_host = λ u also there. absurd (host_not_own lent.grammar.now lent.extensible.now (own_in lent) (all_in lent)
            ok.certified.are_pieces k (written_beside lent x) (listed lent ok k x at) (own_first lent ok k x at + i) u
            (inr (own_row lent ok k x at i less)) (sym there ∙ sym here));
        of_extension = λ l y u at' mine there. elim (cases_eq k l) [
          | inl same ↦
              let y_is : y ≡ written_beside lent x =
              same_Some y (written_beside lent x) (sym at' ∙ (ap (slice_get (all_in lent)) (sym same) ∙ listed lent ok k x at)) in
              λ z. Some (span_of lent.grammar.now lent.extensible.now (own_in lent) (all_in lent) (same z) (back y_is z))
          | inr differ ↦ absurd (other_not_own lent.grammar.now lent.extensible.now (own_in lent) (all_in lent) ok.certified.are_pieces
              k l (written_beside lent x) y (listed lent ok k x at) at' differ (own_first lent ok k x at + i) u
              (inr (own_row lent ok k x at i less)) (sym there ∙ sym here))
        ];
      }
        where
          here : piece_row lent.grammar.now lent.extensible.now (own_in lent) (all_in lent) k (written_beside lent x)
              (own_first lent ok k x at + i) ≡ layout_at lent (own_begin lent ok k x at + i)
          here = own_place lent ok k x at i less

          back : {X : Type 0} {a b : X} → a ≡ b → b ≡ a
          back e = sym e

      -- it has no fewer productions than the host
      pub more_productions : length lent.grammar.now.productions ≤ length x.grammar.now.productions
      more_productions =
          let (own, is) = (all_at (λ (y : Addition). Extends lent.grammar.now (grammar_in y)) lent.extensions.now k x
          (extends_all lent ok) at).productions in
          let len = length-append lent.grammar.now.productions own in
          let same = ap length is in omega (arith, len, same)

      -- where the next extension's productions begin
      pub first_next : first_in (k + 1) ≡ first_in k + added_productions lent.grammar.now x.grammar.now
      first_next =
          let size = size_at lent.grammar.now lent.extensible.now (pieces_of (all_in lent)) (added_productions lent.grammar.now) k
          (written_beside lent x).piece (piece_there lent.grammar.now lent.extensible.now (own_in lent) (all_in lent)
          ok.certified.are_pieces k (written_beside lent x) (listed lent ok k x at)) in
          let e = count_more (production_sizes lent.grammar.now lent.extensible.now (pieces_of (all_in lent))) k
          (added_productions lent.grammar.now x.grammar.now) size in omega (arith, e)

      -- of one extension's own layout more
      pub spans_more : (was now : List (Option (ℕ × ℕ))) (first end count : ℕ) → first ≡ first_in k →
          end ≡ first + added_productions lent.grammar.now x.grammar.now → count ≡ owns_in lent x →
          AreSpansBelow lent (own_begin lent ok k x at) was → now ≡ was ++ replicate count (Some (first, end)) →
          AreSpansBelow lent (hosts_in lent + count_before (layout_sizes_in lent) (k + 1)) now
      spans_more was now first end count first_is end_is count_is were is =
          subst (AreSpansBelow lent (hosts_in lent + count_before (layout_sizes_in lent) (k + 1))) (sym is)
          (record { len = len_is; each = each })
        where
          pair_is : (first, end) ≡ span_in
          pair_is =
              let last : end ≡ first_in k + added_productions lent.grammar.now x.grammar.now = omega (arith, first_is, end_is) in
              λ z. (first_is z, last z)

          len_is : length (was ++ replicate count (Some (first, end))) ≡ hosts_in lent + count_before (layout_sizes_in lent) (k + 1)
          len_is =
              let a = length-append was (replicate count (Some (first, end))) in
              let b = length-replicate {A = Option (ℕ × ℕ)} count (Some (first, end)) in
              let c = were.len in
              let d = own_next lent ok k x at in omega (arith, a, b, c, d, count_is)

          each : (j : ℕ) (span : Option (ℕ × ℕ)) → slice_get (was ++ replicate count (Some (first, end))) j ≡ Some span →
              IsSpan lent (layout_at lent j) span
          each j span there = elim (at_append was (replicate count (Some (first, end))) span j there) [
            | inl here ↦ were.each j span here
            | inr (i, j_is, span_at) ↦
                let (less, same) = at_replicate count i (Some (first, end)) span span_at in
                let len = were.len in
                let place_is : own_begin lent ok k x at + i ≡ j = omega (arith, j_is, len) in
                subst (λ z. IsSpan lent (layout_at lent z) span) place_is
                (subst (IsSpan lent (layout_at lent (own_begin lent ok k x at + i))) (ap Some (sym pair_is) ∙ same)
                (own_span i (omega (arith, less, count_is))))
          ]

  -- of all
  pub spans_all : (n : ℕ) (spans : List (Option (ℕ × ℕ))) → n ≡ length lent.extensions.now →
      AreSpansBelow lent (hosts_in lent + count_before (layout_sizes_in lent) n) spans → AreSpansBelow lent (layouts_in lent) spans
  spans_all n spans n_is are =
      subst (λ z. AreSpansBelow lent (hosts_in lent + z) spans)
      (ap (count_before (layout_sizes_in lent)) n_is ∙ (layouts_end lent ∙ count_all (layout_sizes_in lent))) are

  -- they are the union's
  pub spans_are : (spans : List (Option (ℕ × ℕ))) → AreSpansBelow lent (layouts_in lent) spans →
      AreSpans lent.grammar.now lent.extensible.now (own_in lent) (all_in lent) (layout_in lent) spans
  spans_are spans are = record {
    of_host = λ place t is at.
        (let (here, less) = range_at (union_terminals lent) (layouts_in lent) place
        (host_row lent.grammar.now lent.extensible.now (own_in lent) (all_in lent) t) at in
        (span_at place less).of_host t is (sym here));
    of_extension = λ place k x t listed mine at.
        (let (here, less) = range_at (union_terminals lent) (layouts_in lent) place
        (piece_row lent.grammar.now lent.extensible.now (own_in lent) (all_in lent) k x t) at in
        (span_at place less).of_extension k x t listed mine (sym here));
  }
    where
      span_at : (place : ℕ) → place < layouts_in lent → IsSpan lent (layout_at lent place) (slice_index_or spans place None)
      span_at place less =
          let len = are.len in
          are.each place (slice_index_or spans place None) (at_default spans place None (omega (arith, less, len)))
