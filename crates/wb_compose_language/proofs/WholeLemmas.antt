-- All forms of the union, with their expressions and those of layout.
use Rattle.std.proofs.Common.{◌≡◌, ◌∙◌, ◌<◌, ◌≤◌, ◌+◌, ◌-◌, ◌++◌, ◌∷◌, [], ℕ, zero, suc, List, Some, inl, inr, length, map, drop, take}
use Rattle.std.proofs.Common.{slice_get}
use Rattle.std.proofs.Common.{refl, sym, ap, subst, arith, append_assoc, length-append}
use Rattle.std.specs.Prelude.{◌↔◌}
use Rattle.std.proofs.lemmas.List.{length-drop, length-map}
use Rattle.std.proofs.lemmas.List.FromFn.{length-range_with_len}
use Rattle.std.proofs.lemmas.Option.{same_Some, slice_get_within}
use Rattle.wb_automata.specs.Automata.{IsMatch}
use Rattle.wb_scan_theory.specs.declared.form.Form.{Form}
use Rattle.wb_scan_theory.specs.Languages.{bare}
use Rattle.wb_lemmas.proofs.Places.{append_after, append_keeps, at_append, at_drop, at_once, at_within, nothing_at}
use Rattle.wb_regex.specs.Matches.{Matches}
use Rattle.wb_regex.specs.Tree.{Tree}
use Rattle.wb_syntax_resolved.specs.declared.terminal.Terminal.{Terminal}
use Rattle.wb_compose_theory_grammar.specs.Places.{count_before, total_of}
use Rattle.wb_compose_theory_grammar.specs.Unions.{added_terminals}
use Rattle.wb_compose_theory_grammar.proofs.FactLemmas.{map_at, size_at}
use Rattle.wb_compose_theory_grammar.proofs.PlaceLemmas.{lift_past, within_total}
use Rattle.wb_compose_theory_language.specs.Forms.{kept, of_extension, of_host, prefixed}
use Rattle.wb_compose_theory_language.specs.Languages.{AreForms, AreWithdrawn, IsTextOf}
use Rattle.wb_compose_theory_language.specs.Written.{IsOwnTerminal, WrittenPiece, pieces_of}
use Rattle.wb_compose_theory_language.proofs.DecidedLemmas.{range_at}
use Rattle.wb_compose_theory_language.proofs.RowLemmas.{piece_there}
use Rattle.wb_compose_language.specs.declared.addition.Lent.{Lent}
use Rattle.wb_compose_language.specs.Expressions.{AreExpressions, layout_in}
use Rattle.wb_compose_language.specs.Inner.FormsMade.{AreFormsBelow, AreWithdrawnBelow, IsFormIn, IsWithdrawnIn, Writes}
use Rattle.wb_compose_language.specs.Inner.Layouts.{AreLayoutAdded, layouts_in}
use Rattle.wb_compose_language.specs.Inner.Opened.{sizes_in, union_terminals}
use Rattle.wb_compose_language.specs.Lents.{IsUnitable, all_in, own_in}
use Rattle.wb_compose_language.proofs.GrammarLemmas.{element_more}
use Rattle.wb_compose_language.proofs.KindLemmas.{number_in, own_marker, pattern_of}

-- none come before the first
pub count_none : (ys : List ℕ) → count_before ys 0 ≡ 0
count_none [] = refl
count_none (y ∷ ys) = refl

-- so many come before the next
pub count_more : (xs : List ℕ) (k size : ℕ) → slice_get xs k ≡ Some size → count_before xs (k + 1) ≡ count_before xs k + size
count_more [] k size at = absurd (nothing_at size k at)
count_more (x ∷ xs) zero size at = let same = same_Some x size at in let none_before = count_none xs in omega (arith, same, none_before)
count_more (x ∷ xs) (suc k) size at =
    let next : suc k + 1 ≡ suc (k + 1) = omega arith in
    let rest = count_more xs k size at in
    let here : x + count_before xs (k + 1) ≡ x + count_before xs k + size = omega (arith, rest) in
    ap (count_before (x ∷ xs)) next ∙ here

-- and all
pub count_all : (xs : List ℕ) → count_before xs (length xs) ≡ total_of xs
count_all [] = refl
count_all (x ∷ xs) = let rest = count_all xs in omega (arith, rest)

module _ (lent : Lent) where
  -- the expression at a place matches the texts of the form
  abbrev Answers : List Tree → ℕ → Form → Type 0
  Answers expressions place form =
      (text : List ℕ) → IsMatch expressions place text ↔
      IsTextOf lent.grammar.now lent.extensible.now (own_in lent) (all_in lent) form text

  module _ (ok : IsUnitable lent) where
    -- an extension's own terminal is one of the union
    pub number_below : (k : ℕ) (x : WrittenPiece) (t : ℕ) → slice_get (all_in lent) k ≡ Some x →
        IsOwnTerminal lent.grammar.now (own_in lent) x t → number_in lent ok k t < union_terminals lent
    number_below k x t at mine =
        let size = size_at lent.grammar.now lent.extensible.now (pieces_of (all_in lent)) (added_terminals lent.grammar.now) k x.piece
        (piece_there lent.grammar.now lent.extensible.now (own_in lent) (all_in lent) ok.certified.are_pieces k x at) in
        let fits = within_total (sizes_in lent) k (added_terminals lent.grammar.now x.piece.grammar) size in
        let e = lift_past lent.grammar.now.terminals (count_before (sizes_in lent) k) t mine.0 in
        let far = mine.0 in
        let low = mine.1 in omega (arith, fits, e, far, low)

    form_below : (form : Form) → IsFormIn lent form → form.terminal < union_terminals lent
    form_below form (prefixed k x marker e) =
        let n_is = marker.is in
        let less = number_below k x marker.terminal marker.listed (own_marker lent ok k x marker.listed marker.terminal marker.marker) in
        omega (arith, n_is, less)
    form_below form (kept k x marker out e) =
        let n_is = marker.is in
        let less = number_below k x marker.terminal marker.listed (own_marker lent ok k x marker.listed marker.terminal marker.marker) in
        omega (arith, n_is, less)
    form_below form (of_host low e) = omega (arith, low)
    form_below form (of_extension k x t at mine n_is e) =
        let less = number_below k x t at (mine.own, mine.within) in omega (arith, n_is, less)

    -- all forms
    pub all_forms : (forms : List Form) (expressions : List Tree) → AreFormsBelow lent (union_terminals lent) forms expressions →
        AreForms lent.grammar.now lent.extensible.now (own_in lent) (all_in lent) forms
    all_forms forms expressions b = record {
      each = λ place form at. (b.sound.each place form at).0;
      every = λ form is. b.every form is (form_below form is);
      once = b.sound.once;
    }

    -- all withdrawn markers
    pub all_withdrawn : (withdrawn : List ℕ) → AreWithdrawnBelow lent (union_terminals lent) withdrawn →
        AreWithdrawn lent.grammar.now lent.extensible.now (own_in lent) (all_in lent) withdrawn
    all_withdrawn withdrawn w = record {
      each = λ n. (
        λ has. ((w.each n).0 has).1,
        λ (is : IsWithdrawnIn lent n). (w.each n).1 (
          (
              let n_is = is.marker.is in
              let less = number_below is.k is.x is.marker.terminal is.marker.listed
              (own_marker lent ok is.k is.x is.marker.listed is.marker.terminal is.marker.marker) in omega (arith, n_is, less)
              ),
          is,
        ),
      );
      rising = w.rising;
    }

    -- all expressions
    pub all_expressions : (forms : List Form) (expressions whole : List Tree) →
        AreFormsBelow lent (union_terminals lent) forms expressions → AreLayoutAdded lent expressions whole → AreExpressions lent forms whole
    all_expressions forms expressions whole b (trees, is, laid) =
        subst (AreExpressions lent forms) (sym is) (record { len = len_is; each = each })
      where
        len_is : length (expressions ++ trees) ≡ length forms + length (layout_in lent)
        len_is =
            let a = length-append expressions trees in
            let c = b.sound.len in
            let d = laid.len in
            let e = length-range_with_len (union_terminals lent) (layouts_in lent) in omega (arith, a, c, d, e)

        -- a tree that is there is what matches
        by_tree : (place : ℕ) (form : Form) (tree : Tree) → slice_get (expressions ++ trees) place ≡ Some tree →
            Writes lent tree form → Answers (expressions ++ trees) place form
        by_tree place form tree at writes text = (
          λ m. (writes text).0 (subst (λ z. Matches z text) (at_once (expressions ++ trees) place m.tree tree m.at at) m.matches),
          λ w. record { tree = tree; at = at; matches = (writes text).1 w },
        )

        of_form : (place : ℕ) (form : Form) → slice_get forms place ≡ Some form → Answers (expressions ++ trees) place form
        of_form place form at =
            let w = slice_get_within forms place form at in
            let len = b.sound.len in
            let (tree, there) = at_within expressions place (omega (arith, w, len)) in
            by_tree place form tree (append_keeps expressions trees place tree there) (b.sound.written place form tree at there)

        of_layout : (j : ℕ) (form : Form) → slice_get (map bare (layout_in lent)) j ≡ Some form →
            Answers (expressions ++ trees) (length forms + j) form
        of_layout j form at =
            let (number, listed, form_is) = map_at bare (layout_in lent) j form at in
            let (number_is, less) = range_at (union_terminals lent) (layouts_in lent) j number listed in
            let all = laid.len in
            let len = b.sound.len in
            let (tree, tree_at) = at_within trees j (omega (arith, less, all)) in
            let place_is : length expressions + j ≡ length forms + j = omega (arith, len) in
            by_tree (length forms + j) form tree
            (subst (λ z. slice_get (expressions ++ trees) z ≡ Some tree) place_is (append_after expressions trees j ∙ tree_at))
            (subst (Writes lent tree) (sym (form_is ∙ ap bare number_is)) (laid.each j tree tree_at))

        each : (place : ℕ) (form : Form) → slice_get (forms ++ map bare (layout_in lent)) place ≡ Some form →
            Answers (expressions ++ trees) place form
        each place form at = elim (at_append forms (map bare (layout_in lent)) form place at) [
          | inl here ↦ of_form place form here
          | inr (j, place_is, there) ↦ subst (λ z. Answers (expressions ++ trees) z form) (sym place_is) (of_layout j form there)
        ]

-- the expression of one row more
pub pattern_more : (rows : List Terminal) (own i : ℕ) (old was now : List Tree) (tree : Tree) (row : Terminal) → own ≤ i →
    slice_get rows i ≡ Some row → tree ≡ row.pattern → was ≡ old ++ map pattern_of (take (i - own) (drop own rows)) →
    now ≡ was ++ tree ∷ [] → now ≡ old ++ map pattern_of (take (i + 1 - own) (drop own rows))
pattern_more rows own i old was now tree row far at tree_is before is =
    let within = slice_get_within rows i row at in
    let len = length-drop own rows in
    let (other, there) = at_within (drop own rows) (i - own) (omega (arith, within, len, far)) in
    let back : own + (i - own) ≡ i = omega (arith, far) in
    let same = at_once rows i other row
    (subst (λ z. slice_get rows z ≡ Some other) back (at_drop rows own (i - own) other there)) at in
    let next : i + 1 - own ≡ (i - own) + 1 = omega (arith, far) in
    let more_is = element_more pattern_of (drop own rows) (i - own) other there in
    let last : pattern_of other ≡ tree = ap pattern_of same ∙ sym tree_is in
    is ∙ (ap (λ z. z ++ tree ∷ []) before ∙ (append_assoc old (map pattern_of (take (i - own) (drop own rows))) (tree ∷ []) ∙
    ap (λ z. old ++ z) (ap (λ z. map pattern_of (take (i - own) (drop own rows)) ++ z ∷ []) (sym last) ∙
    (sym more_is ∙ ap (λ z. map pattern_of (take z (drop own rows))) (sym next)))))
