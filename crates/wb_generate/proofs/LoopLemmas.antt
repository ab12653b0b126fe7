-- Counting the numbers that pass a test, and finding one by its place among them.
use Rattle.std.proofs.Common.{◌≡◌, ℕ, ◌+◌, ◌<◌, ◌≤◌, Bool, true, false, cond, List, length, get_or, take}
use Rattle.std.proofs.Common.{refl, sym, ◌∙◌, ap, arith, inl, inr, Some}
use Rattle.std.specs.Prelude.{slice_get}
use Rattle.std.specs.List.{filter}
use Rattle.std.proofs.lemmas.Bool.{cases_lt}
use Rattle.std.proofs.lemmas.List.{take_all}
use Rattle.std.proofs.lemmas.List.Filters.{length-filter_more}
use Rattle.std.proofs.lemmas.Option.{slice_get-get_or}
use Rattle.wb_generate.proofs.ChoiceLemmas.{filter_at}

cond_most : (b : Bool) → cond b 1 0 ≤ 1
cond_most true = omega arith
cond_most false = omega arith

-- one number more
pub counted : (test : ℕ → Bool) (xs : List ℕ) (i d many next : ℕ) (b : Bool) → i < length xs → b ≡ test (get_or xs i d) →
    next ≡ many + cond b 1 0 → many ≡ length (filter test (take i xs)) → next ≡ length (filter test (take (i + 1) xs))
counted test xs i d many next b lt may more so_far =
    let e : length (filter test (take (i + 1) xs)) ≡ length (filter test (take i xs)) + cond {A = ℕ} (test (get_or xs i d)) 1 0 =
    length-filter_more test xs i d lt in
    let h : cond {A = ℕ} (test (get_or xs i d)) 1 0 ≡ cond {A = ℕ} b 1 0 = ap (λ z. cond {A = ℕ} z 1 0) (sym may) in
    omega (arith, e, h, more, so_far)

pub counted_most : (i many next : ℕ) (b : Bool) → next ≡ many + cond b 1 0 → many ≤ i → next ≤ i + 1
counted_most i many next b more le = (let h : cond b 1 0 ≤ 1 = cond_most b in omega arith)

-- one more passed, where it wasn't the one that is looked for
pub passed_most : (passed place next : ℕ) (b : Bool) → next ≡ passed + cond b 1 0 → passed ≤ place → ¬ ((b ≡ true) × (passed ≡ place)) →
    next ≤ place
passed_most passed place next true more le other =
    elim (cases_lt passed place) [
      | inl lt ↦ omega arith
      | inr past ↦ absurd (other (refl, omega arith))
    ]
passed_most passed place next false more le other = omega arith

pub count_all : (test : ℕ → Bool) (xs : List ℕ) (i many : ℕ) → length xs ≤ i → many ≡ length (filter test (take i xs)) →
    many ≡ length (filter test xs)
count_all test xs i many past so_far = so_far ∙ ap (λ z. length (filter test z)) (take_all i xs past)

pub found_at : (test : ℕ → Bool) (xs : List ℕ) (i d place : ℕ) (b : Bool) → i < length xs → b ≡ test (get_or xs i d) → b ≡ true →
    place ≡ length (filter test (take i xs)) → slice_get (filter test xs) place ≡ Some (get_or xs i d)
found_at test xs i d place b lt may passes so_far =
    ap (slice_get (filter test xs)) so_far ∙ filter_at test xs i (get_or xs i d) (slice_get-get_or xs i d lt) (sym may ∙ passes)
