-- Expressions of the union's layout: those of the host's, and then of each extension's own.
use Rattle.std.proofs.Common.{◌≡◌, ◌∙◌, ◌<◌, ◌≤◌, ◌+◌, ◌-◌, ◌++◌, ℕ, List, Some, inl, inr, length, map, drop, slice_get}
use Rattle.std.proofs.Common.{refl, sym, ap, subst, arith, append_assoc, length-append}
use Rattle.std.proofs.lemmas.List.{length-drop, length-map}
use Rattle.std.proofs.lemmas.Option.{slice_get_within}
use Rattle.wb_lemmas.proofs.Places.{at_append, at_drop}
use Rattle.wb_scan_theory.specs.Languages.{bare}
use Rattle.wb_regex.specs.Matches.{Matches}
use Rattle.wb_regex.specs.Tree.{Tree}
use Rattle.wb_syntax_resolved.specs.declared.terminal.Terminal.{Terminal}
use Rattle.wb_compose_theory_grammar.specs.Places.{count_before}
use Rattle.wb_compose_theory_grammar.proofs.FactLemmas.{at_map, map_at}
use Rattle.wb_compose_theory_language.specs.Languages.{IsTextOf}
use Rattle.wb_compose_theory_language.specs.Rows as reads
use Rattle.wb_compose_theory_language.specs.Rows.{host_row, piece_row}
use Rattle.wb_compose_theory_language.specs.Written.{IsOwnLayoutRow, own_layouts}
use Rattle.wb_compose_theory_language.proofs.ReadLemmas.{reads_host, reads_piece}
use Rattle.wb_compose_theory_language.proofs.RowLemmas.{host_past, row_layout}
use Rattle.wb_compose_language.specs.declared.addition.Addition.{Addition}
use Rattle.wb_compose_language.specs.declared.addition.Lent.{Lent}
use Rattle.wb_compose_language.specs.Inner.FormsMade.{Writes}
use Rattle.wb_compose_language.specs.Inner.Layouts.{AreLayoutAdded, AreLayoutTrees, ArePatternsFrom, AreTreesAdded, hosts_in, layout_at}
use Rattle.wb_compose_language.specs.Inner.Layouts.{layout_sizes_in, owns_in}
use Rattle.wb_compose_language.specs.Lents.{IsUnitable, all_in, own_in, written_beside}
use Rattle.wb_compose_language.proofs.KindLemmas.{ReadsIn, at_match, listed, match_at, pattern_of}
use Rattle.wb_compose_language.proofs.WholeLemmas.{count_all, count_more, count_none}

-- the expressions of rows from the first on, by place
pattern_at : (first : ℕ) (rows : List Terminal) (i : ℕ) (tree : Tree) → slice_get (map pattern_of (drop first rows)) i ≡ Some tree →
    (row : Terminal) × (slice_get rows (first + i) ≡ Some row) × (tree ≡ row.pattern)
pattern_at first rows i tree at =
    let (row, row_at, is) = map_at pattern_of (drop first rows) i tree at in (row, at_drop rows first i row row_at, is)

pattern_count : (first : ℕ) (rows : List Terminal) → length (map pattern_of (drop first rows)) ≡ length rows - first
pattern_count first rows = length-map (drop first rows) pattern_of ∙ length-drop first rows

module _ (lent : Lent) where
  -- how many layouts the host has, and an extension of its own, by their rows
  pub hosts_are : hosts_in lent ≡ length lent.terminals.now - lent.grammar.now.terminals
  hosts_are = let len = length-map lent.terminals.now pattern_of in omega (arith, len)

  pub owns_are : (x : Addition) → owns_in lent x ≡ length x.terminals.now - (x.grammar.now.terminals + hosts_in lent)
  owns_are x = let len = length-map x.terminals.now pattern_of in omega (arith, len)

  module _ (ok : IsUnitable lent) where
    -- what matches the texts that are read at a number writes its bare form
    writes_by : (n : ℕ) (tree : Tree) → ((text : List ℕ) → Matches tree text → ReadsIn lent ok n text) →
        ((text : List ℕ) → ReadsIn lent ok n text → Matches tree text) → Writes lent tree (bare n)
    writes_by n tree to from text = (
      λ (m : Matches tree text). record { lexeme = text; reads = to text m; is = refl },
      λ (w : IsTextOf lent.grammar.now lent.extensible.now (own_in lent) (all_in lent) (bare n) text).
          from text (subst (ReadsIn lent ok n) (sym w.is) w.reads),
    )

    -- the expression of a layout of the host
    host_tree : (j : ℕ) (row : Terminal) → j < hosts_in lent → slice_get lent.terminals.now (lent.grammar.now.terminals + j) ≡ Some row →
        Writes lent row.pattern (bare (layout_at lent j))
    host_tree j row less at =
        writes_by (layout_at lent j) row.pattern (λ text m. reads.of_host (lent.grammar.now.terminals + j) (sym here)
        (match_at lent.terminals.now (lent.grammar.now.terminals + j) row text at m))
        (λ text r. at_match lent.terminals.now (lent.grammar.now.terminals + j) row text at
        (reads_host lent.grammar.now lent.extensible.now (own_in lent) (all_in lent) ok.certified.are_pieces ok.apart
        (lent.grammar.now.terminals + j) text (subst (λ z. ReadsIn lent ok z text) (sym here) r)))
      where
        here : host_row lent.grammar.now lent.extensible.now (own_in lent) (all_in lent) (lent.grammar.now.terminals + j) ≡ layout_at lent j
        here =
            let e = host_past lent.grammar.now lent.extensible.now (own_in lent) (all_in lent) ok.certified.are_pieces j less in
            omega (arith, e)

    module _ (k : ℕ) (x : Addition) (at : slice_get lent.extensions.now k ≡ Some x) where
      -- where an extension's own layout begins among its rows
      abbrev pub own_first : ℕ
      own_first = x.grammar.now.terminals + hosts_in lent

      -- and where in the union
      abbrev pub own_begin : ℕ
      own_begin = hosts_in lent + count_before (layout_sizes_in lent) k

      pub own_row : (i : ℕ) → i < owns_in lent x → IsOwnLayoutRow lent.grammar.now (own_in lent) (written_beside lent x) (own_first + i)
      own_row i less = (omega arith, omega (arith, less))

      pub own_place : (i : ℕ) → i < owns_in lent x →
          piece_row lent.grammar.now lent.extensible.now (own_in lent) (all_in lent) k (written_beside lent x) (own_first + i)
          ≡ layout_at lent (own_begin + i)
      own_place i less =
          let e = row_layout lent.grammar.now lent.extensible.now (own_in lent) (all_in lent) ok.certified.are_pieces k
          (written_beside lent x) (listed lent ok k x at) (own_first + i) (own_row i less) in omega (arith, e)

      -- its expression
      own_tree : (i : ℕ) (row : Terminal) → i < owns_in lent x → slice_get x.terminals.now (own_first + i) ≡ Some row →
          Writes lent row.pattern (bare (layout_at lent (own_begin + i)))
      own_tree i row less row_at =
          writes_by (layout_at lent (own_begin + i)) row.pattern (λ text m. reads.of_extension k (written_beside lent x) (own_first + i)
          (listed lent ok k x at) (sym (own_place i less)) (match_at x.terminals.now (own_first + i) row text row_at m))
          (λ text r. at_match x.terminals.now (own_first + i) row text row_at
          (reads_piece lent.grammar.now lent.extensible.now (own_in lent) (all_in lent) ok.certified.are_pieces ok.apart k
          (written_beside lent x) (listed lent ok k x at) (own_first + i) text
          (subst (λ z. ReadsIn lent ok z text) (sym (own_place i less)) r)))

      -- so many come before the next extension's
      pub own_next : own_begin + owns_in lent x ≡ hosts_in lent + count_before (layout_sizes_in lent) (k + 1)
      own_next =
          let size : slice_get (layout_sizes_in lent) k ≡ Some (owns_in lent x) =
          at_map (own_layouts lent.grammar.now (own_in lent)) (all_in lent) k (written_beside lent x) (listed lent ok k x at) in
          let e = count_more (layout_sizes_in lent) k (owns_in lent x) size in omega (arith, e)

      -- those of one extension more
      pub trees_more : (old was now : List Tree) → AreTreesAdded lent own_begin old was →
          ArePatternsFrom own_first x.terminals.now was now →
          AreTreesAdded lent (hosts_in lent + count_before (layout_sizes_in lent) (k + 1)) old now
      trees_more old was now (trees, was_is, laid) now_is = (
        trees ++ added,
        now_is ∙ (ap (λ z. z ++ added) was_is ∙ append_assoc old trees added),
        record { len = len_is; each = each },
      )
        where
          added : List Tree
          added = map pattern_of (drop own_first x.terminals.now)

          count_is : length added ≡ owns_in lent x
          count_is = pattern_count own_first x.terminals.now ∙ sym (owns_are x)

          len_is : length (trees ++ added) ≡ hosts_in lent + count_before (layout_sizes_in lent) (k + 1)
          len_is =
              let a = length-append trees added in
              let b = laid.len in
              let c = count_is in
              let d = own_next in omega (arith, a, b, c, d)

          each : (j : ℕ) (tree : Tree) → slice_get (trees ++ added) j ≡ Some tree → Writes lent tree (bare (layout_at lent j))
          each j tree there = elim (at_append trees added tree j there) [
            | inl here ↦ laid.each j tree here
            | inr (i, j_is, tree_at) ↦
                let (row, row_at, tree_is) = pattern_at own_first x.terminals.now i tree tree_at in
                let within = slice_get_within added i tree tree_at in
                let count = count_is in
                let len = laid.len in
                let place_is : own_begin + i ≡ j = omega (arith, j_is, len) in
                subst (λ z. Writes lent tree (bare (layout_at lent z))) place_is
                (subst (λ z. Writes lent z (bare (layout_at lent (own_begin + i)))) (sym tree_is)
                (own_tree i row (omega (arith, within, count)) row_at))
          ]

    -- those of the host
    pub trees_first : (old now : List Tree) → ArePatternsFrom lent.grammar.now.terminals lent.terminals.now old now →
        AreTreesAdded lent (hosts_in lent + count_before (layout_sizes_in lent) 0) old now
    trees_first old now is = (trees, is, record { len = len_is; each = each })
      where
        trees : List Tree
        trees = map pattern_of (drop lent.grammar.now.terminals lent.terminals.now)

        len_is : length trees ≡ hosts_in lent + count_before (layout_sizes_in lent) 0
        len_is =
            let a = pattern_count lent.grammar.now.terminals lent.terminals.now in
            let b = hosts_are in
            let c = count_none (layout_sizes_in lent) in omega (arith, a, b, c)

        each : (j : ℕ) (tree : Tree) → slice_get trees j ≡ Some tree → Writes lent tree (bare (layout_at lent j))
        each j tree at =
            let (row, row_at, tree_is) = pattern_at lent.grammar.now.terminals lent.terminals.now j tree at in
            let within = slice_get_within trees j tree at in
            let a = pattern_count lent.grammar.now.terminals lent.terminals.now in
            let b = hosts_are in
            subst (λ z. Writes lent z (bare (layout_at lent j))) (sym tree_is) (host_tree j row (omega (arith, within, a, b)) row_at)

  -- so many extensions there are
  pub layouts_end : count_before (layout_sizes_in lent) (length lent.extensions.now) ≡ count_before (layout_sizes_in lent)
      (length (layout_sizes_in lent))
  layouts_end =
      ap (count_before (layout_sizes_in lent)) (sym (length-map (all_in lent) (own_layouts lent.grammar.now (own_in lent))
      ∙ length-map lent.extensions.now (written_beside lent)))

  -- those of all extensions
  pub trees_all : (n : ℕ) (old now : List Tree) → n ≡ length lent.extensions.now →
      AreTreesAdded lent (hosts_in lent + count_before (layout_sizes_in lent) n) old now → AreLayoutAdded lent old now
  trees_all n old now n_is laid =
      subst (λ z. AreTreesAdded lent (hosts_in lent + z) old now)
      (ap (count_before (layout_sizes_in lent)) n_is ∙ (layouts_end ∙ count_all (layout_sizes_in lent))) laid
