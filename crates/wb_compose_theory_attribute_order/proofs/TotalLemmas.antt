-- Lists of sizes in two orders have one total.
use Rattle.std.proofs.Common.{◌≡◌, ◌≢◌, ◌⊎◌, ◌<◌, ◌≤◌, ◌∙◌, ℕ, zero, suc, List, sym, ap, inl, inr, arith}
use Rattle.std.proofs.lemmas.Bool.{cases_eq}
use Rattle.wb_compose_theory_order.proofs.NumberLemmas.{number_back, reordering_back, to_below}
use Rattle.wb_compose_theory_order.specs.Orders.{IsReordering, number_to}
use Rattle.wb_compose_theory_grammar.specs.Places.{total_of}

-- different numbers below one bound for those below another: the other is no more
module _ (m : ℕ) where
  -- a function that doesn't give m, by what it is exchanged for
  abbrev exchanged : (f : ℕ → ℕ) (last i : ℕ) → (f i ≡ m) ⊎ (f i ≢ m) → ℕ
  exchanged f last i (inl is) = last
  exchanged f last i (inr other) = f i

pub no_more_below : (n m : ℕ) (f : ℕ → ℕ) → ((i : ℕ) → i < n → f i < m) → ((i j : ℕ) → i < n → j < n → f i ≡ f j → i ≡ j) → n ≤ m
no_more_below zero m f below once = omega arith
no_more_below (suc n) zero f below once = let first = below zero (omega arith) in absurd (omega (arith, first))
no_more_below (suc n) (suc m) f below once =
    let rest = no_more_below n m g g_below g_once in omega (arith, rest)
  where
    g : ℕ → ℕ
    g i = exchanged m f (f n) i (cases_eq (f i) m)

    below_by : (i : ℕ) → i < n → (c : (f i ≡ m) ⊎ (f i ≢ m)) → exchanged m f (f n) i c < m
    below_by i less (inl is) =
        let high = below n (omega arith) in
        let differ : f n ≢ m = λ e. let same = once i n (omega (arith, less)) (omega arith) (is ∙ sym e) in absurd (omega (arith, same, less)) in
        omega (arith, high, differ)
    below_by i less (inr other) = let high = below i (omega (arith, less)) in omega (arith, high, other)

    g_below : (i : ℕ) → i < n → g i < m
    g_below i less = below_by i less (cases_eq (f i) m)

    once_by : (i j : ℕ) → i < n → j < n → (c : (f i ≡ m) ⊎ (f i ≢ m)) (d : (f j ≡ m) ⊎ (f j ≢ m))
        → exchanged m f (f n) i c ≡ exchanged m f (f n) j d → i ≡ j
    once_by i j less less' (inl is) (inl is') same = once i j (omega (arith, less)) (omega (arith, less')) (is ∙ sym is')
    once_by i j less less' (inl is) (inr other) same =
        let e = once n j (omega arith) (omega (arith, less')) same in absurd (omega (arith, e, less'))
    once_by i j less less' (inr other) (inl is') same =
        let e = once i n (omega (arith, less)) (omega arith) same in absurd (omega (arith, e, less))
    once_by i j less less' (inr other) (inr other') same = once i j (omega (arith, less)) (omega (arith, less')) same

    g_once : (i j : ℕ) → i < n → j < n → g i ≡ g j → i ≡ j
    g_once i j less less' same = once_by i j less less' (cases_eq (f i) m) (cases_eq (f j) m) same

total_le : {to from : ℕ → ℕ} {sizes others : List ℕ} → IsReordering to from sizes others → total_of sizes ≤ total_of others
total_le {to} {from} {sizes} {others} re =
    no_more_below (total_of sizes) (total_of others) (number_to 0 sizes others to)
    (λ i less. let there = to_below 0 re i (omega (arith, less)) in omega (arith, there))
    (λ i j less less' same. sym (number_back 0 re i) ∙ (ap (number_to 0 others sizes from) same ∙ number_back 0 re j))

pub total_same : {to from : ℕ → ℕ} {sizes others : List ℕ} → IsReordering to from sizes others → total_of sizes ≡ total_of others
total_same re = let one = total_le re in let other = total_le (reordering_back re) in omega (arith, one, other)
