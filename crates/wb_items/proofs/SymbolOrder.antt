-- The order of symbols, and lists in this order.
use Rattle.std.proofs.Common.{◌≡◌, ℕ, ◌+◌, ◌-◌, ◌<◌, ◌≤◌, zero, suc, List, length, Some, sym, ◌∙◌, ap, subst, inl, inr, arith}
use Rattle.std.specs.Prelude.{slice_get, slice_index_or}
use Rattle.std.proofs.lemmas.Bool.{cases_eq, cases_lt}
use Rattle.std.proofs.lemmas.Option.{slice_get_within, slice_get-get_or}
use Rattle.wb_lemmas.proofs.Places.{at_once}
use Rattle.wb_base.specs.declared.symbol.Symbol.{Symbol}
use Rattle.wb_base.specs.declared.symbol.Symbol.TheVariants.{Terminal, Nonterminal}
use Rattle.wb_items.specs.declared.advance.Advance.{Advance}
use Rattle.wb_items.specs.Order.{SymbolPrecedes}
use Rattle.wb_items.specs.Inner.Advances.{AreAdvancesRising, IsRun, symbol_of}

-- of two symbols the one is before the other, or they are the same
pub data Ordered (x y : Symbol) : Type 0 where
  earlier : SymbolPrecedes x y → Ordered x y
  equal : x ≡ y → Ordered x y
  later : SymbolPrecedes y x → Ordered x y

pub ordered : (x y : Symbol) → Ordered x y
ordered (Terminal t) (Terminal u) = elim
    (cases_eq t u) [ inl e ↦ equal (ap Terminal e) | inr ne ↦ elim (cases_lt t u) [ inl lt ↦ earlier lt | inr ge ↦ later (omega arith) ] ]
ordered (Terminal t) (Nonterminal b) = earlier tt
ordered (Nonterminal a) (Terminal u) = later tt
ordered (Nonterminal a) (Nonterminal b) = elim
    (cases_eq a b) [
      | inl e ↦ equal (ap Nonterminal e)
      | inr ne ↦ elim
          (cases_lt a b) [ inl lt ↦ earlier lt | inr ge ↦ later (omega arith) ]
    ]

pub symbol_then : (x y z : Symbol) → SymbolPrecedes x y → SymbolPrecedes y z → SymbolPrecedes x z
symbol_then (Terminal t) (Terminal u) (Terminal v) p q = omega arith
symbol_then (Terminal t) (Terminal u) (Nonterminal c) p q = tt
symbol_then (Terminal t) (Nonterminal b) (Terminal v) p q = absurd q
symbol_then (Terminal t) (Nonterminal b) (Nonterminal c) p q = tt
symbol_then (Nonterminal a) (Terminal u) z p q = absurd p
symbol_then (Nonterminal a) (Nonterminal b) (Terminal v) p q = absurd q
symbol_then (Nonterminal a) (Nonterminal b) (Nonterminal c) p q = omega arith

pub symbol_not_itself : (x : Symbol) → SymbolPrecedes x x → ⊥
symbol_not_itself (Terminal t) p = omega arith
symbol_not_itself (Nonterminal a) p = omega arith

-- what is before neither and is no later stays no later
pub no_later : (x y z : Symbol) → (SymbolPrecedes y x → ⊥) → (SymbolPrecedes z y → ⊥) → SymbolPrecedes z x → ⊥
no_later x y z p q r = elim (ordered x y) [
  | earlier lt ↦ q (symbol_then z x y r lt)
  | equal e ↦ q (subst (SymbolPrecedes z) e r)
  | later gt ↦ p gt
]

-- what is later than the first of two that rise is later than the second
later_yet : (x y z : Symbol) → SymbolPrecedes x y → (SymbolPrecedes z y → ⊥) → SymbolPrecedes x z
later_yet x y z p q = elim (ordered y z) [
  | earlier lt ↦ symbol_then x y z p lt
  | equal e ↦ subst (SymbolPrecedes x) e p
  | later gt ↦ absurd (q gt)
]

far_by : (list : List Advance) → AreAdvancesRising list → (d i j : ℕ) (a b : Advance) → j ≡ i + 1 + d → slice_get list i ≡ Some a →
    slice_get list j ≡ Some b → SymbolPrecedes (symbol_of b) (symbol_of a) → ⊥
far_by list rising zero i j a b e at there less = rising i a b at (subst (λ k. slice_get list k ≡ Some b) (let f : j ≡ i + 1 =
    omega arith in f) there) (inl less)
far_by list rising (suc d) i j a b e at there less =
    let m = j - 1 in
    let f : j ≡ m + 1 = omega arith in
    let inside : m < length list = (let lt = slice_get_within list j b there in omega (arith, lt)) in
    let c = slice_index_or list m a in
    let here : slice_get list m ≡ Some c = slice_get-get_or list m a inside in
    no_later (symbol_of a) (symbol_of c) (symbol_of b) (far_by list rising d i m a c (omega arith) at here)
    (λ lt. rising m c b here (subst (λ k. slice_get list k ≡ Some b) f there) (inl lt)) less

-- a later place has no earlier symbol
pub far : (list : List Advance) → AreAdvancesRising list → (i j : ℕ) (a b : Advance) → i ≤ j → slice_get list i ≡ Some a →
    slice_get list j ≡ Some b → SymbolPrecedes (symbol_of b) (symbol_of a) → ⊥
far list rising i j a b le at there less = elim (cases_eq i j) [
  | inl same ↦ symbol_not_itself (symbol_of a)
      (subst (λ (z : Advance). SymbolPrecedes (symbol_of z) (symbol_of a))
      (at_once list j b a there (subst (λ k. slice_get list k ≡ Some a) same at)) less)
  | inr ne ↦ far_by list rising (j - (i + 1)) i j a b (omega arith) at there less
]

module _ (list : List Advance) (x : Symbol) (place : ℕ) (rising : AreAdvancesRising list) (here : (a : Advance) →
    slice_get list place ≡ Some a → symbol_of a ≡ x) (lt : place < length list) where
  -- a run ends where another symbol stands
  pub run_ends : (end : ℕ) (b : Advance) (y : Symbol) → place < end → slice_get list end ≡ Some b → symbol_of b ≡ y → (y ≡ x → ⊥) →
      ((j : ℕ) (a : Advance) → place ≤ j → j < end → slice_get list j ≡ Some a → symbol_of a ≡ x) → IsRun list x place end
  run_ends end b y after at is ne same = record {
    after = after;
    within = (let w = slice_get_within list end b at in omega (arith, w));
    same = same;
    beyond = λ j a le there. later_yet x (symbol_of b) (symbol_of a) is_later (far list rising end j b a le at there);
  }
    where
      first : (a : Advance) × (slice_get list place ≡ Some a)
      first = (slice_index_or list place b, slice_get-get_or list place b lt)

      is_later : SymbolPrecedes x (symbol_of b)
      is_later = elim (ordered x (symbol_of b)) [
        | earlier less ↦ less
        | equal e ↦ absurd (ne (sym (e ∙ is)))
        | later gt ↦ (let (a, at') =
            first in absurd (far list rising place end a b (omega arith) at' at
            (subst (SymbolPrecedes (symbol_of b)) (sym (here a at')) gt)))
      ]

  -- or where the list ends
  pub run_all : (end : ℕ) → end ≡ length list →
      ((j : ℕ) (a : Advance) → place ≤ j → j < end → slice_get list j ≡ Some a → symbol_of a ≡ x) → IsRun list x place end
  run_all end e same = record {
    after = omega (arith, e);
    within = omega (arith, e);
    same = same;
    beyond = λ j a le there. absurd (let w = slice_get_within list j a there in omega (arith, w, e));
  }
