-- Cycles: from each member a walk leads round to each member.
use Rattle.std.proofs.Common.{◌≡◌, ℕ, ◌<◌, ◌≤◌, ◌+◌, ◌-◌, zero, suc, List, [], ◌∷◌, length, Some, refl, sym, ◌∙◌, subst, inl, inr, arith}
use Rattle.std.specs.Prelude.{slice_get}
use Rattle.std.proofs.lemmas.Option.{slice_get_within}
use Rattle.std.proofs.lemmas.Bool.{cases_lt, cases_eq}
use Rattle.wb_base.specs.Grammar.{GrammarView}
use Rattle.wb_grammar_theory.specs.Cycles.{DerivesAlone, DerivesItself, IsHiddenLeftRecursive, IsLeftCorner, IsFollowedBy, IsCycleOf}
use Rattle.wb_grammar_theory.specs.Cycles.{IsUnitCycle}
use Rattle.wb_grammar_theory.specs.Cycles.{IsHiddenCycle}
use Rattle.wb_grammar_theory.specs.Walks.{Walk, one, more, here}
use Rattle.wb_grammar_theory.proofs.UnitLemmas.{alone_then}
use Rattle.wb_grammar_theory.proofs.HiddenLemmas.{hidden_is}

-- what is at a place before one with an element
pub earlier : (list : List ℕ) (k j b : ℕ) → slice_get list j ≡ Some b → k ≤ j → (c : ℕ) × (slice_get list k ≡ Some c)
earlier [] k j b e le = cc
earlier (x ∷ list) zero j b e le = (x, refl)
earlier (x ∷ list) (suc k) zero b e le = absurd (omega arith)
earlier (x ∷ list) (suc k) (suc j) b e le = earlier list k j b e (omega arith)

pub Walk-then : {R : ℕ → ℕ → Type 0} {a b c : ℕ} → Walk R a b → Walk R b c → Walk R a c
Walk-then (one r) w = more r w
Walk-then (more r v) w = more r (Walk-then v w)

-- from a place to one after it
forward : (R : ℕ → ℕ → Type 0) (list : List ℕ) → IsCycleOf R list → (d i a b : ℕ) → slice_get list i ≡ Some a →
    slice_get list (suc (d + i)) ≡ Some b → Walk R a b
forward R list cycle zero i a b from to =
    let e : suc (0 + i) ≡ i + 1 = omega arith in
    one (cycle.each a b (record { place = i; one = from; other = inl (subst (λ n. slice_get list n ≡ Some b) e to) }))
forward R list cycle (suc d) i a b from to =
    let le : i + 1 ≤ suc (suc d + i) = omega arith in
    let (c, at) = earlier list (i + 1) (suc (suc d + i)) b to le in
    let e : suc (suc d + i) ≡ suc (d + (i + 1)) = omega arith in
    more (cycle.each a c (record { place = i; one = from; other = inl at }))
    (forward R list cycle d (i + 1) c b at (subst (λ n. slice_get list n ≡ Some b) e to))

-- from the last place to the first
around : (R : ℕ → ℕ → Type 0) (list : List ℕ) → IsCycleOf R list → (last a first : ℕ) → last + 1 ≡ length list →
    slice_get list last ≡ Some a → slice_get list 0 ≡ Some first → R a first
around R list cycle last a first is from to = cycle.each a first (record { place = last; one = from; other = inr (is, to) })

-- the last element
last_element : (list : List ℕ) → 0 < length list → (c : ℕ) × (slice_get list (length list - 1) ≡ Some c)
last_element [] lt = absurd (omega arith)
last_element (x ∷ []) lt = (x, refl)
last_element (x ∷ y ∷ list) lt =
    let (c, at) = last_element (y ∷ list) (omega arith) in
    let e : length (x ∷ y ∷ list) - 1 ≡ suc (length (y ∷ list) - 1) = omega arith in
    (c, subst (λ n. slice_get (x ∷ y ∷ list) n ≡ Some c) (sym e) at)

-- from a place to any place, if need be over the end
pub cycle_walk : (R : ℕ → ℕ → Type 0) (list : List ℕ) → IsCycleOf R list → (i j a b : ℕ) → slice_get list i ≡ Some a →
    slice_get list j ≡ Some b → Walk R a b
cycle_walk R list cycle i j a b from to =
    let i_lt : i < length list = slice_get_within list i a from in
    elim (cases_lt i j) [
      | inl before ↦ forward_to i j a b from to before
      | inr past ↦
          let (first, at) = earlier list 0 j b to (omega arith) in
          let rest : (c : ℕ) → Walk R c first → Walk R c b = λ c w. to_b first at c w in
          elim (cases_lt (i + 1) (length list)) [
            | inl more_behind ↦
                let (last, at_last) = last_of in
                rest a (Walk-then (forward_to i (length list - 1) a last from at_last (omega arith))
                (one (around R list cycle (length list - 1) last first (omega arith) at_last at)))
            | inr none_behind ↦ rest a (one (around R list cycle i a first (omega arith) from at))
          ]
    ]
  where
    forward_to : (i j a b : ℕ) → slice_get list i ≡ Some a → slice_get list j ≡ Some b → i < j → Walk R a b
    forward_to i j a b from to lt =
        let e : j ≡ suc ((j - suc i) + i) = omega arith in
        forward R list cycle (j - suc i) i a b from (subst (λ n. slice_get list n ≡ Some b) e to)

    last_of : (c : ℕ) × (slice_get list (length list - 1) ≡ Some c)
    last_of = last_element list cycle.nonempty

    to_b : (first : ℕ) → slice_get list 0 ≡ Some first → (c : ℕ) → Walk R c first → Walk R c b
    to_b first at c w = elim (cases_eq j 0) [
      | inl zero_j ↦
          let same : Some first ≡ Some b = sym at ∙ subst (λ n. slice_get list n ≡ Some b) zero_j to in
          let is : first ≡ b = cc in subst (λ z. Walk R c z) is w
      | inr not_zero ↦ Walk-then w (forward_to 0 j first b at to (omega arith))
    ]

alone_walks : {g : GrammarView} {a b : ℕ} → Walk (DerivesAlone g) a b → DerivesAlone g a b
alone_walks (one r) = r
alone_walks (more r w) = alone_then r (alone_walks w)

-- each member of a unit cycle derives itself
pub unit_cycle_member : (g : GrammarView) (list : List ℕ) → IsUnitCycle g list → (i a : ℕ) → slice_get list i ≡ Some a → DerivesItself g a
unit_cycle_member g list cycle i a at = alone_walks (cycle_walk (DerivesAlone g) list cycle i i a a at at)

-- the place of the follower
pub follower_place : (list : List ℕ) (a b : ℕ) → IsFollowedBy list a b → (j : ℕ) × (slice_get list j ≡ Some b)
follower_place list a b f = elim f.other [
  | inl next ↦ (f.place + 1, next)
  | inr around ↦ (0, around.1)
]

-- a member of a hidden cycle is hidden left recursive
pub hidden_cycle_above : (g : GrammarView) (list : List ℕ) (cycle : IsHiddenCycle g list) → IsHiddenLeftRecursive g cycle.above
hidden_cycle_above g list cycle =
    let (j, at) = follower_place list cycle.above cycle.below cycle.place in
    (hidden_is g cycle.above).1 (here cycle.hidden
    (cycle_walk (IsLeftCorner g) list cycle.cycle j cycle.place.place cycle.below cycle.above at cycle.place.one))

-- a unit cycle alone is a cycle
pub cycle_of_one : (g : GrammarView) (a : ℕ) → DerivesItself g a → IsUnitCycle g (a ∷ [])
cycle_of_one g a cycle = record { nonempty = omega arith; each = λ b c f. alone b c f }
  where
    member : (i b : ℕ) → slice_get (a ∷ []) i ≡ Some b → a ≡ b
    member zero b e = cc
    member (suc i) b e = cc

    alone : (b c : ℕ) → IsFollowedBy (a ∷ []) b c → DerivesAlone g b c
    alone b c f =
        let (j, at) = follower_place (a ∷ []) b c f in
        subst (λ z. DerivesAlone g b z) (member j c at) (subst (λ z. DerivesAlone g z a) (member f.place b f.one) cycle)

-- the first element of a list with one
pub first_element : (list : List ℕ) → 0 < length list → (a : ℕ) × (slice_get list 0 ≡ Some a)
first_element [] lt = absurd (omega arith)
first_element (x ∷ list) lt = (x, refl)
