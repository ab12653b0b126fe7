-- Bare forms, which have the numbers of their terminals.
use Rattle.std.proofs.Common.{◌≡◌, ◌+◌, ◌<◌, ◌∙◌, ℕ, List, [], ◌∷◌, ◌++◌, take, length, refl, sym, ap, inl, inr, arith, get_or}
use Rattle.std.specs.Prelude.{Some, map, slice_get, option_map, Option, None}
use Rattle.std.specs.List.{range_with_len}
use Rattle.std.proofs.lemmas.List.{length-map, take_more}
use Rattle.std.proofs.lemmas.List.FromFn.{length-range_with_len, get_or-range_with_len, length-map-range_with_len, take-map-range_with_len}
use Rattle.std.proofs.lemmas.Option.{slice_get-map, slice_get_within, slice_get-get_or, same_Some, get_or_from_slice_get}
use Rattle.wb_lemmas.proofs.Places.{at_append}
use Rattle.wb_base.specs.Grammar.{GrammarView}
use Rattle.wb_scan_theory.specs.declared.form.Form.{Form}
use Rattle.wb_scan_theory.specs.Languages.{bare, forms_of}
use Rattle.wb_regex.specs.Tree.{Tree}
use Rattle.wb_scan.specs.Bare.{bare_forms, language_with, AreWrittenFor}

-- their number
pub bare_len : (count : ℕ) → length (bare_forms count) ≡ count
bare_len count = length-map (range_with_len 0 count) bare ∙ length-range_with_len 0 count

-- the form of a terminal
pub bare_at : (count t : ℕ) → t < count → slice_get (bare_forms count) t ≡ Some (bare t)
bare_at count t below =
    let within : t < length (range_with_len 0 count) = let len = length-range_with_len 0 count in omega (arith, len, below) in
    let number : get_or (range_with_len 0 count) t 0 ≡ t =
    let is = get_or-range_with_len 0 count t 0 below in omega (arith, is) in
    slice_get-map bare (range_with_len 0 count) t
    ∙ ap (λ (o : Option ℕ). option_map bare o) (slice_get-get_or (range_with_len 0 count) t 0 within)
    ∙ ap (λ (k : ℕ). Some (bare k)) number

-- a place among them is below their number
pub bare_below : (count place : ℕ) (form : Form) → slice_get (bare_forms count) place ≡ Some form → place < count
bare_below count place form at =
    let within = slice_get_within (bare_forms count) place form at in
    let len = bare_len count in
    omega (arith, within, len)

-- and its form is that of the terminal
pub bare_is : (count place : ℕ) (form : Form) → slice_get (bare_forms count) place ≡ Some form → bare place ≡ form
bare_is count place form at =
    same_Some (bare place) form (sym (bare_at count place (bare_below count place form at)) ∙ at)

-- the form of layout
layout_is : (terminals : ℕ) (layout : List ℕ) (k : ℕ) (form : Form) → ((k t : ℕ) → slice_get layout k ≡ Some t → t ≡ terminals + k)
    → slice_get (map bare layout) k ≡ Some form → form.terminal ≡ terminals + k
layout_is terminals layout k form numbers at = found (slice_get layout k) refl
  where
    found : (o : Option ℕ) → slice_get layout k ≡ o → form.terminal ≡ terminals + k
    found None is =
        let e : None ≡ Some form = sym (ap (λ (o : Option ℕ). option_map bare o) is) ∙ sym (slice_get-map bare layout k) ∙ at in cc
    found (Some t) is =
        let e : Some (bare t) ≡ Some form =
        sym (ap (λ (o : Option ℕ). option_map bare o) is) ∙ sym (slice_get-map bare layout k) ∙ at in
        sym (ap (λ (f : Form). f.terminal) (same_Some (bare t) form e)) ∙ numbers k t is

-- a form has the number of its terminal
pub form_is : (g : GrammarView) (expressions : List Tree) (layout : List ℕ) (preferences : List (ℕ × ℕ)) (place : ℕ) (form : Form)
    → AreWrittenFor g.terminals expressions layout preferences
    → slice_get (forms_of (language_with g expressions layout preferences)) place ≡ Some form → form.terminal ≡ place
form_is g expressions layout preferences place form written at =
    elim (at_append (bare_forms g.terminals) (map bare layout) form place at) [
      | inl first ↦ sym (ap (λ (f : Form). f.terminal) (bare_is g.terminals place form first))
      | inr (k, from, second) ↦
          let len = bare_len g.terminals in
          let is = layout_is g.terminals layout k form written.numbers second in
          omega (arith, is, len, from)
    ]

-- one form more
pub bare_more : (count : ℕ) → bare_forms (count + 1) ≡ bare_forms count ++ bare count ∷ []
bare_more count =
    sym (take-map-range_with_len bare 0 (count + 1) (count + 1) (omega arith)) ∙ taken
  where
    xs : List Form
    xs = map bare (range_with_len 0 (count + 1))

    len : length xs ≡ count + 1
    len = length-map-range_with_len bare 0 (count + 1)

    taken : take (count + 1) xs ≡ bare_forms count ++ bare count ∷ []
    taken = take_more xs count (bare count) (omega (arith, len))
        ∙ ap (λ (ys : List Form). ys ++ get_or xs count (bare count) ∷ []) (take-map-range_with_len bare 0 (count + 1) count (omega arith))
        ∙ ap (λ (f : Form). bare_forms count ++ f ∷ [])
        (get_or_from_slice_get xs count (bare count) (bare count) (bare_at (count + 1) count (omega arith)))
