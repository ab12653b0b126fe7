-- Rows that don't lead: a stretch of rows that don't, of which all before do, is what follows first, in its order.
use Rattle.std.proofs.Common.{◌≡◌, ◌≤◌, ◌<◌, ◌+◌, ◌∷◌, ℕ, zero, suc, List, Some, length, slice_get, refl, arith}
use Rattle.wb_lemmas.proofs.Places.{nothing_at}
use Rattle.wb_names_numbers_theory.specs.Sources.{Splits, follows, leads, nothing}

-- of a list all before the n-th lead, and those from there to before the (n + m)-th don't
pub record IsStretch {X : Type 0} (P : X → Type 0) (n m : ℕ) (xs : List X) : Type 0 where
  pub before : (k : ℕ) (x : X) → k < n → slice_get xs k ≡ Some x → P x
  pub within : (k : ℕ) (x : X) → n ≤ k → k < n + m → slice_get xs k ≡ Some x → ¬ P x

-- without its first element
rest_before : {X : Type 0} (P : X → Type 0) (n m : ℕ) (x : X) (xs : List X) → IsStretch P (suc n) m (x ∷ xs) → IsStretch P n m xs
rest_before P n m x xs s = record {
  before = λ k y less at. s.before (suc k) y (omega (arith, less)) at;
  within = λ k y le less at. s.within (suc k) y (omega (arith, le)) (omega (arith, less)) at;
}

rest_within : {X : Type 0} (P : X → Type 0) (m : ℕ) (x : X) (xs : List X) → IsStretch P 0 (suc m) (x ∷ xs) → IsStretch P 0 m xs
rest_within P m x xs s = record {
  before = λ k y less at. absurd (omega (arith, less));
  within = λ k y le less at. s.within (suc k) y (omega (arith, le)) (omega (arith, less)) at;
}

-- the stretch follows in its order
pub follow_kept : {X : Type 0} (P : X → Type 0) (n m : ℕ) (xs a b : List X) → Splits P xs a b → IsStretch P n m xs →
    (i j : ℕ) (x : X) → i ≡ n + j → j < m → slice_get xs i ≡ Some x → slice_get b j ≡ Some x
follow_kept P n m xs a b nothing s i j x e less at = absurd (nothing_at x i at)
follow_kept P zero zero xs a b (leads {x = y} {xs = ys} p more) s i j x e less at = absurd (omega (arith, less))
follow_kept P zero (suc m) xs a b (leads {x = y} {xs = ys} p more) s i j x e less at =
    absurd (s.within 0 y (omega arith) (omega arith) refl p)
follow_kept P (suc n) m xs a b (leads {x = y} {xs = ys} {leading = c} p more) s zero j x e less at = absurd (omega (arith, e))
follow_kept P (suc n) m xs a b (leads {x = y} {xs = ys} {leading = c} p more) s (suc i) j x e less at =
    follow_kept P n m ys c b more (rest_before P n m y ys s) i j x (omega (arith, e)) less at
follow_kept P (suc n) m xs a b (follows {x = y} {xs = ys} p more) s i j x e less at = absurd (p (s.before 0 y (omega arith) refl))
follow_kept P zero zero xs a b (follows {x = y} {xs = ys} p more) s i j x e less at = absurd (omega (arith, less))
follow_kept P zero (suc m) xs a b (follows {x = y} {xs = ys} {following = d} p more) s zero zero x e less at = at
follow_kept P zero (suc m) xs a b (follows {x = y} {xs = ys} {following = d} p more) s zero (suc j) x e less at = absurd (omega (arith, e))
follow_kept P zero (suc m) xs a b (follows {x = y} {xs = ys} {following = d} p more) s (suc i) zero x e less at = absurd (omega (arith, e))
follow_kept P zero (suc m) xs a b (follows {x = y} {xs = ys} {following = d} p more) s (suc i) (suc j) x e less at =
    follow_kept P 0 m ys a d more (rest_within P m y ys s) i j x (omega (arith, e)) (omega (arith, less)) at

-- so no fewer follow
pub follow_least : {X : Type 0} (P : X → Type 0) (n m : ℕ) (xs a b : List X) → Splits P xs a b → IsStretch P n m xs →
    n + m ≤ length xs → m ≤ length b
follow_least P n m xs a b nothing s long = omega (arith, long)
follow_least P zero zero xs a b (leads {x = y} {xs = ys} {leading = c} p more) s long = omega arith
follow_least P zero (suc m) xs a b (leads {x = y} {xs = ys} p more) s long = absurd (s.within 0 y (omega arith) (omega arith) refl p)
follow_least P (suc n) m xs a b (leads {x = y} {xs = ys} {leading = c} p more) s long =
    follow_least P n m ys c b more (rest_before P n m y ys s) (omega (arith, long))
follow_least P (suc n) m xs a b (follows {x = y} {xs = ys} p more) s long = absurd (p (s.before 0 y (omega arith) refl))
follow_least P zero zero xs a b (follows {x = y} {xs = ys} p more) s long = omega arith
follow_least P zero (suc m) xs a b (follows {x = y} {xs = ys} {following = d} p more) s long =
    let least = follow_least P 0 m ys a d more (rest_within P m y ys s) (omega (arith, long)) in omega (arith, least)
