-- Names that are there once in a view are there once in the attribution.
use Rattle.std.proofs.Common.{◌≡◌, ◌∙◌, ◌+◌, ◌<◌, ◌++◌, ℕ, List, Some, map, slice_get, length, sym, ap, subst}
use Rattle.std.proofs.Common.{inl, inr, arith, option_map}
use Rattle.std.proofs.lemmas.Option.{slice_get-map, slice_get_within}
use Rattle.wb_lemmas.proofs.Places.{at_append, append_after, append_keeps}
use Rattle.wb_syntax_resolved.specs.declared.attribution.AttributionParts.{AttributionParts}
use Rattle.wb_syntax_resolved.specs.Once.{Entry, NamesDiffer}
use Rattle.wb_syntax_resolved.specs.Owners.{Sees, IsOwner}
use Rattle.wb_compose_theory_attributes.specs.Rows.{new_owner}
use Rattle.wb_compose_theory_attributes.proofs.SeenLemmas.{mapped}
use Rattle.wb_compose_theory_attributes.proofs.ViewLemmas.{View, sees_back}

-- the row of a name
pub row_of : {X : Type 0} (f : X → Entry) (xs : List X) (i owner : ℕ) (name : List ℕ) → slice_get (map f xs) i ≡ Some (owner, name)
    → (x : X) × (slice_get xs i ≡ Some x) × (f x ≡ (owner, name))
row_of f xs i owner name at = mapped f (slice_get xs i) (owner, name) (sym (slice_get-map f xs i) ∙ at)

pub entry_at : {X : Type 0} (f : X → Entry) (xs : List X) (i : ℕ) (x : X) → slice_get xs i ≡ Some x → slice_get (map f xs) i ≡ Some (f x)
entry_at f xs i x at = slice_get-map f xs i ∙ ap (option_map f) at

module _ (a : AttributionParts) (k : ℕ) (v : View a k) where
  -- where a name comes from
  pub record Back (names : List Entry) (f : ℕ → ℕ) (i owner : ℕ) (name : List ℕ) : Type 0 where
    pub number : ℕ
    pub from : ℕ
    pub at : slice_get names number ≡ Some (from, name)
    pub is : i ≡ f number
    pub owner_is : owner ≡ new_owner k from
    pub within : IsOwner v.s.extensions from

  abbrev pub ComesBack : List Entry → List Entry → (ℕ → ℕ) → Type 0
  ComesBack xs names f =
      (i owner : ℕ) (name : List ℕ) → slice_get xs i ≡ Some (owner, name) → Sees k owner → Back names f i owner name

  sees_from : {xs ys : List Entry} {f g : ℕ → ℕ} {i j owner other : ℕ} {name : List ℕ} (b : Back xs f i owner name)
      (c : Back ys g j other name)
      → Sees owner other → Sees b.from c.from
  sees_from {owner = owner} {other = other} b c sees =
      sees_back a k v b.from c.from b.within c.within (subst (λ z. Sees z (new_owner k c.from)) b.owner_is (subst
      (Sees owner) c.owner_is sees))

  pub one_part : (xs names : List Entry) (f : ℕ → ℕ) → ComesBack xs names f → NamesDiffer names → (i j owner other : ℕ) (name : List ℕ)
      → slice_get xs i ≡ Some (owner, name) → slice_get xs j ≡ Some (other, name) → Sees k owner → Sees k other → Sees owner other → i ≡ j
  one_part xs names f back differ i j owner other name at at' mine also sees =
      let b = back i owner name at mine in
      let c = back j other name at' also in
      let same = differ b.number c.number b.from c.from name b.at c.at (sees_from b c sees) in
      b.is ∙ (ap f same ∙ sym c.is)

  module _ (xs ys first second : List Entry) (f g : ℕ → ℕ) (back : ComesBack xs first f) (back' : ComesBack ys second g)
      (differ : NamesDiffer (first ++ second)) where
    -- a place in one part, and one in another
    left_left : (i j : ℕ) {owner other : ℕ} {name : List ℕ} → Back first f i owner name → Back first f j other name
        → Sees owner other → i ≡ j
    left_left i j {name = name} b c sees =
        let same = differ b.number c.number b.from c.from name (append_keeps first second b.number (b.from, name) b.at)
        (append_keeps first second c.number (c.from, name) c.at) (sees_from b c sees) in
        b.is ∙ (ap f same ∙ sym c.is)

    after : (number from : ℕ) (name : List ℕ) → slice_get second number ≡ Some (from, name)
        → slice_get (first ++ second) (length first + number) ≡ Some (from, name)
    after number from name at = append_after first second number ∙ at

    right_right : (i j : ℕ) {owner other : ℕ} {name : List ℕ} → Back second g i owner name → Back second g j other name → Sees owner other
        → i ≡ j
    right_right i j {name = name} b c sees =
        let same = differ (length first + b.number) (length first + c.number) b.from c.from name (after b.number b.from name b.at)
        (after c.number c.from name c.at) (sees_from b c sees) in
        let equal : b.number ≡ c.number = omega (arith, same) in
        b.is ∙ (ap g equal ∙ sym c.is)

    left_right : (i j : ℕ) {owner other : ℕ} {name : List ℕ} → Back first f i owner name → Back second g j other name → Sees owner other → ⊥
    left_right i j {name = name} b c sees =
        let same = differ b.number (length first + c.number) b.from c.from name (append_keeps first second b.number (b.from, name) b.at)
        (after c.number c.from name c.at) (sees_from b c sees) in
        let within : b.number < length first = slice_get_within first b.number (b.from, name) b.at in
        omega (arith, same, within)

    right_left : (i j : ℕ) {owner other : ℕ} {name : List ℕ} → Back second g i owner name → Back first f j other name → Sees owner other → ⊥
    right_left i j {name = name} b c sees =
        let same = differ (length first + b.number) c.number b.from c.from name (after b.number b.from name b.at)
        (append_keeps first second c.number (c.from, name) c.at) (sees_from b c sees) in
        let within : c.number < length first = slice_get_within first c.number (c.from, name) c.at in
        omega (arith, same, within)

    pub two_parts : (i j owner other : ℕ) (name : List ℕ) → slice_get (xs ++ ys) i ≡ Some (owner, name)
        → slice_get (xs ++ ys) j ≡ Some (other, name) → Sees k owner → Sees k other → Sees owner other → i ≡ j
    two_parts i j owner other name at at' mine also sees = elim (at_append xs ys (owner, name) i at) [
      | inl here ↦ elim (at_append xs ys (other, name) j at') [
        | inl there ↦ left_left i j (back i owner name here mine) (back j other name there also) sees
        | inr (m, is', there) ↦ absurd (left_right i m (back i owner name here mine) (back' m other name there also) sees)
      ]
      | inr (l, is, here) ↦ elim (at_append xs ys (other, name) j at') [
        | inl there ↦ absurd (right_left l j (back' l owner name here mine) (back j other name there also) sees)
        | inr (m, is', there) ↦ is ∙ (ap (λ z. length xs + z)
            (right_right l m (back' l owner name here mine) (back' m other name there also) sees) ∙ sym is')
      ]
    ]
