-- Sets of terminals that are filled item by item.
use Rattle.std.proofs.Common.{◌≡◌, ◌<◌, ◌+◌, ◌∙◌, ℕ, Bool, List, [], Some, sym, subst, inl, inr, arith}
use Rattle.std.specs.Prelude.{◌↔◌, ◌⊎◌, slice_get}
use Rattle.std.proofs.lemmas.Bool.{cases_eq}
use Rattle.std.proofs.lemmas.Option.{same_Some}
use Rattle.wb_base.specs.Grammar.{GrammarView}
use Rattle.wb_grammar_theory.specs.Items.{after_dot}
use Rattle.wb_items.specs.declared.item_lookahead.ItemLookahead.{ItemLookahead}
use Rattle.wb_termset.specs.Sets.{IsMember}
use Rattle.wb_determinism.specs.Valid.{AddsReductions, AddsShift, IsBefore, IsReduced, IsShifted}

module _ (g : GrammarView) (row : List ItemLookahead) (n : ℕ) (looks : ItemLookahead) (at : slice_get row n ≡ Some looks) where
  same_looks : (place : ℕ) (other : ItemLookahead) → slice_get row place ≡ Some other → place ≡ n → other ≡ looks
  same_looks place other there same = same_Some other looks (sym (subst (λ (i : ℕ). slice_get row i ≡ Some other) same there) ∙ at)

  -- one item more, with the terminal after its dot
  pub shifted_more : (old new : List Bool) → ((t : ℕ) → IsMember old t ↔ IsShifted g row n t) → AddsShift g looks.item old new
      → (t : ℕ) → IsMember new t ↔ IsShifted g row (n + 1) t
  shifted_more old new before adds t = (λ has. there ((adds t).0 has), λ is. (adds t).1 (back is))
    where
      there : IsMember old t ⊎ IsBefore g looks.item t → IsShifted g row (n + 1) t
      there (inl has) =
          (let s = (before t).0 has in let b = s.below in
          record { place = s.place; looks = s.looks; below = omega (arith, b); at = s.at; before = s.before })
      there (inr is) = record { place = n; looks = looks; below = omega arith; at = at; before = is }

      back : IsShifted g row (n + 1) t → IsMember old t ⊎ IsBefore g looks.item t
      back s = elim (cases_eq s.place n) [
        | inl same ↦ inr (subst (λ (l : ItemLookahead). IsBefore g l.item t) (same_looks s.place s.looks s.at same) s.before)
        | inr other ↦
            let b = s.below in
            inl ((before t).1 (record { place = s.place; looks = s.looks; below = omega (arith, b, other); at = s.at; before = s.before }))
      ]

  -- one item more, with its lookaheads
  pub reduced_more : (P : ℕ → Type 0) (below : ℕ) (old new : List Bool)
      → ((t : ℕ) → IsMember old t ↔ (P t ⊎ ((t < below) × IsReduced g row n t))) → AddsReductions g looks below old new
      → (t : ℕ) → IsMember new t ↔ (P t ⊎ ((t < below) × IsReduced g row (n + 1) t))
  reduced_more P below old new before adds t = (λ has. there ((adds t).0 has), λ is. (adds t).1 (back is))
    where
      old_there : P t ⊎ ((t < below) × IsReduced g row n t) → P t ⊎ ((t < below) × IsReduced g row (n + 1) t)
      old_there (inl p) = inl p
      old_there (inr (lt, s)) =
          (let b = s.below in
          inr (lt, record { place = s.place; looks = s.looks; below = omega (arith, b); at = s.at; complete = s.complete; has = s.has }))

      there : IsMember old t ⊎ ((t < below) × (after_dot g looks.item ≡ []) × IsMember looks.set t)
          → P t ⊎ ((t < below) × IsReduced g row (n + 1) t)
      there (inl has) = old_there ((before t).0 has)
      there (inr (lt, complete, has)) =
          inr (lt, record { place = n; looks = looks; below = omega arith; at = at; complete = complete; has = has })

      back : P t ⊎ ((t < below) × IsReduced g row (n + 1) t) → IsMember old t
          ⊎ ((t < below) × (after_dot g looks.item ≡ []) × IsMember looks.set t)
      back (inl p) = inl ((before t).1 (inl p))
      back (inr (lt, s)) = elim (cases_eq s.place n) [
        | inl same ↦
            let is = same_looks s.place s.looks s.at same in
            inr (
              lt,
              subst (λ (l : ItemLookahead). after_dot g l.item ≡ []) is s.complete,
              subst
                  (λ (l : ItemLookahead). IsMember l.set t) is s.has,
            )
        | inr other ↦
            let b = s.below in
            inl ((before t).1 (inr (
              lt,
              record { place = s.place; looks = s.looks; below = omega (arith, b, other); at = s.at; complete = s.complete; has = s.has },
            )))
      ]
