-- Loops over the occurrences on a nonterminal.
use Rattle.std.proofs.Common.{◌≡◌, ◌<◌, ◌≤◌, ◌+◌, ◌∙◌, [], ℕ, List, Option, Some, length, get_or, refl, sym, ap, subst, slice_get, Contains}
use Rattle.std.specs.Prelude.{◌↔◌}
use Rattle.std.proofs.lemmas.Option.{slice_get-get_or, same_Some}
use Rattle.wb_lemmas.proofs.Members.{contains_at, place_of}
use Rattle.wb_lemmas.proofs.Places.{at_once}
use Rattle.wb_flow_theory.specs.Occurrences.{IsOn}
use Rattle.wb_flow.specs.Inner.Adding.{SomeBefore, SomeOf}
use Rattle.wb_flow.specs.Adding.{Adds}
use Rattle.wb_flow.specs.Occurrences.{IsIndexOf}
use Rattle.wb_flow.proofs.AddingLemmas.{adds_as, adds_more, adds_all}
use Rattle.wb_flow.proofs.IndexLemmas.{row_number, number_within, on_of_number}
use Rattle.wb_syntax_resolved.specs.declared.attributes.Occurrence.{Occurrence}
use Rattle.wb_syntax_resolved.specs.declared.attribution.AttributionParts.{AttributionParts}

-- what is something is what it is
pub some_is : {X : Type 0} (o : Option X) (x : X) → o ≡ Some x → (y : X) → (y ≡ x) ↔ (o ≡ Some y)
some_is o x at y = ((λ same. at ∙ ap Some (sym same)), (λ there. same_Some y x (sym there ∙ at)))

-- of the occurrence of a number it holds
abbrev pub OfNumber : {X : Type 0} → List Occurrence → (Occurrence → X → Type 0) → ℕ → X → Type 0
OfNumber occurrences Q n x = (o : Occurrence) × (slice_get occurrences n ≡ Some o) × Q o x

-- of an occurrence on a nonterminal it holds
abbrev pub OnNonterminal : {X : Type 0} → List Occurrence → ℕ → (Occurrence → X → Type 0) → X → Type 0
OnNonterminal occurrences m Q x = (o : Occurrence) × Contains occurrences o × (o.nonterminal ≡ m) × Q o x

module _ (occurrences : List Occurrence) (rows : List (List ℕ)) (index : IsIndexOf occurrences rows) (m : ℕ) where
  -- the numbers of a row are in range
  pub row_within : (row : List ℕ) → row ≡ get_or rows m [] → (i d : ℕ) → i < length row → get_or row i d < length occurrences
  row_within row same i d within =
      let at = slice_get-get_or row i d within in
      number_within occurrences rows index m (get_or row i d) (row_number occurrences rows index m row same i (get_or row i d) at)

  module _ {X : Type 0} (Q : Occurrence → X → Type 0) where
    of_number : (n : ℕ) (o : Occurrence) → slice_get occurrences n ≡ Some o → (x : X) → Q o x ↔ OfNumber occurrences Q n x
    of_number n o at x = (
      (λ holds. (o, at, holds)),
      (λ (p, there, holds). subst (λ z. Q z x) (at_once occurrences n p o there at) holds),
    )

    -- one number more
    pub row_more : (xs ys zs : List X) (row : List ℕ) (i n : ℕ) (o : Occurrence) → slice_get row i ≡ Some n
        → slice_get occurrences n ≡ Some o → Adds xs ys (SomeBefore row i (OfNumber occurrences Q)) → Adds ys zs (Q o)
        → Adds xs zs (SomeBefore row (i + 1) (OfNumber occurrences Q))
    row_more xs ys zs row i n o there at before next =
        adds_more xs ys zs row (OfNumber occurrences Q) i n there before
        (adds_as ys zs (Q o) (OfNumber occurrences Q n) (of_number n o at) next)

    row_occurrences : (row : List ℕ) → row ≡ get_or rows m [] → (x : X)
        → SomeOf row (OfNumber occurrences Q) x ↔ OnNonterminal occurrences m Q x
    row_occurrences row same x = (
      (λ (n, has, (o, at, holds)).
          let (i, there) = place_of row n has in
          let on = row_number occurrences rows index m row same i n there in
          (o, contains_at occurrences o n at, on_of_number occurrences m n o on at, holds)),
      (λ (o, listed, on, holds).
          let (n, at) = place_of occurrences o listed in
          (n, subst (λ z. Contains z n) (sym same) ((index m n).1 (o, at, on)), (o, at, holds))),
    )

    -- all numbers of a row
    pub row_all : (xs ys : List X) (row : List ℕ) → row ≡ get_or rows m [] → (i : ℕ) → length row ≤ i
        → Adds xs ys (SomeBefore row i (OfNumber occurrences Q)) → Adds xs ys (OnNonterminal occurrences m Q)
    row_all xs ys row same i ended adds =
        adds_as xs ys (SomeOf row (OfNumber occurrences Q)) (OnNonterminal occurrences m Q) (row_occurrences row same)
        (adds_all xs ys row (OfNumber occurrences Q) i ended adds)

-- an occurrence on a nonterminal is one of an attribute that is on it
pub on_attribute : {X : Type 0} (a : AttributionParts) (m : ℕ) (F : ℕ → X → Type 0) (x : X)
    → OnNonterminal a.occurrences m (λ o. F o.attribute) x ↔ ((number : ℕ) × IsOn a number m × F number x)
on_attribute a m F x = (
  (λ (o, listed, on, holds). (
    o.attribute,
    (
      o.needs,
      record {
        occurrence = o;
        listed = listed;
        of_attribute = refl;
        on_nonterminal = on;
        needs_are = refl;
      },
    ),
    holds,
  )),
  (λ (number, (needs, flow), holds).
      (flow.occurrence, flow.listed, flow.on_nonterminal, subst (λ z. F z x) (sym flow.of_attribute) holds)),
)
