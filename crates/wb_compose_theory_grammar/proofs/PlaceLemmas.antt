-- Each number has one place, and each place one number.
use Rattle.std.proofs.Common.{◌≡◌, ◌<◌, ◌≤◌, ◌+◌, ◌-◌, ◌∙◌, ◌∷◌, [], ℕ, zero, suc, List, Some, ltb, cond, slice_get, refl, ap, inl}
use Rattle.std.proofs.Common.{inr, arith}
use Rattle.std.proofs.lemmas.Bool.{cases_lt, lt-ltb, le-ltb}
use Rattle.std.proofs.lemmas.Option.{same_Some}
use Rattle.wb_lemmas.proofs.Places.{nothing_at}
use Rattle.wb_compose_theory.specs.Blocks.{lift, spread}
use Rattle.wb_compose_theory_grammar.specs.Places.{of_host, of_extension, past, place_among, place_of, count_before, total_of}

-- equal places
two_places : (k l i j : ℕ) → k ≡ l → i ≡ j → of_extension k i ≡ of_extension l j
two_places k l i j e f = λ z. of_extension (e z) (f z)

-- a number in an extension
among : (first : ℕ) (sizes : List ℕ) (k size i x : ℕ) → slice_get sizes k ≡ Some size → i < size → x ≡ count_before sizes k + i →
    place_among first sizes x ≡ of_extension (first + k) i
among first [] k size i x at within is = absurd (nothing_at size k at)
among first (s ∷ sizes) zero size i x at within is =
    let same : s ≡ size = same_Some s size at in
    let x_is : x ≡ i = omega (arith, is) in
    let below : x < s = omega (arith, x_is, within, same) in
    let at_first : first ≡ first + 0 = omega arith in
    ap (λ c. cond c (of_extension first x) (place_among (suc first) sizes (x - s))) (lt-ltb x s below) ∙
    two_places first (first + 0) x i at_first x_is
among first (s ∷ sizes) (suc k) size i x at within is =
    let far : s ≤ x = omega (arith, is) in
    let rest : x - s ≡ count_before sizes k + i = omega (arith, is) in
    let next : suc first + k ≡ first + suc k = omega arith in
    ap (λ c. cond c (of_extension first x) (place_among (suc first) sizes (x - s))) (le-ltb x s far) ∙
    (among (suc first) sizes k size i (x - s) at within rest ∙ two_places (suc first + k) (first + suc k) i i next refl)

-- a number past all extensions
among_past : (first : ℕ) (sizes : List ℕ) (j x : ℕ) → x ≡ total_of sizes + j → place_among first sizes x ≡ past j
among_past first [] j x is = let x_is : x ≡ j = omega (arith, is) in ap past x_is
among_past first (s ∷ sizes) j x is =
    let far : s ≤ x = omega (arith, is) in
    let rest : x - s ≡ total_of sizes + j = omega (arith, is) in
    ap (λ c. cond c (of_extension first x) (place_among (suc first) sizes (x - s))) (le-ltb x s far) ∙
    among_past (suc first) sizes j (x - s) rest

-- a number of the host
pub place_host : (own : ℕ) (sizes : List ℕ) (x : ℕ) → x < own → place_of own sizes x ≡ of_host x
place_host own sizes x below = ap (λ c. cond c (of_host x) (place_among 0 sizes (x - own))) (lt-ltb x own below)

-- a number of an extension
pub place_extension : (own : ℕ) (sizes : List ℕ) (k size i x : ℕ) → slice_get sizes k ≡ Some size → i < size →
    x ≡ own + (count_before sizes k + i) → place_of own sizes x ≡ of_extension k i
place_extension own sizes k size i x at within is =
    let far : own ≤ x = omega (arith, is) in
    let rest : x - own ≡ count_before sizes k + i = omega (arith, is) in
    let first : 0 + k ≡ k = omega arith in
    ap (λ c. cond c (of_host x) (place_among 0 sizes (x - own))) (le-ltb x own far) ∙
    (among 0 sizes k size i (x - own) at within rest ∙ two_places (0 + k) k i i first refl)

-- a number past all
pub place_past : (own : ℕ) (sizes : List ℕ) (j x : ℕ) → x ≡ own + (total_of sizes + j) → place_of own sizes x ≡ past j
place_past own sizes j x is =
    let far : own ≤ x = omega (arith, is) in
    let rest : x - own ≡ total_of sizes + j = omega (arith, is) in
    ap (λ c. cond c (of_host x) (place_among 0 sizes (x - own))) (le-ltb x own far) ∙ among_past 0 sizes j (x - own) rest

-- a number is of the host, of an extension, or past all
pub data Located (own : ℕ) (sizes : List ℕ) (x : ℕ) : Type 0 where
  in_host : x < own → Located own sizes x
  in_extension : (k size i : ℕ) → slice_get sizes k ≡ Some size → i < size → x ≡ own + (count_before sizes k + i) → Located own sizes x
  after_all : (j : ℕ) → x ≡ own + (total_of sizes + j) → Located own sizes x

-- a number among extensions
data Among (sizes : List ℕ) (x : ℕ) : Type 0 where
  one_of : (k size i : ℕ) → slice_get sizes k ≡ Some size → i < size → x ≡ count_before sizes k + i → Among sizes x
  none_of : (j : ℕ) → x ≡ total_of sizes + j → Among sizes x

-- which it is
look : (sizes : List ℕ) (x : ℕ) → Among sizes x
look [] x = let is : x ≡ 0 + x = omega arith in none_of x is
look (s ∷ sizes) x = elim (cases_lt x s) [ inl below ↦ here below | inr far ↦ later far (look sizes (x - s)) ]
  where
    here : x < s → Among (s ∷ sizes) x
    here below = let is : x ≡ 0 + x = omega arith in one_of 0 s x refl below is

    later : s ≤ x → Among sizes (x - s) → Among (s ∷ sizes) x
    later far (one_of k size i at within is) =
        let x_is : x ≡ (s + count_before sizes k) + i = omega (arith, far, is) in one_of (suc k) size i at within x_is
    later far (none_of j is) = let x_is : x ≡ (s + total_of sizes) + j = omega (arith, far, is) in none_of j x_is

-- which of them a number is
pub located : (own : ℕ) (sizes : List ℕ) (x : ℕ) → Located own sizes x
located own sizes x = elim (cases_lt x own) [ inl below ↦ in_host below | inr far ↦ later far (look sizes (x - own)) ]
  where
    later : own ≤ x → Among sizes (x - own) → Located own sizes x
    later far (one_of k size i at within is) =
        let x_is : x ≡ own + (count_before sizes k + i) = omega (arith, far, is) in in_extension k size i at within x_is
    later far (none_of j is) = let x_is : x ≡ own + (total_of sizes + j) = omega (arith, far, is) in after_all j x_is

-- what an extension has lies within the total
pub within_total : (sizes : List ℕ) (k size : ℕ) → slice_get sizes k ≡ Some size → count_before sizes k + size ≤ total_of sizes
within_total [] k size at = absurd (nothing_at size k at)
within_total (s ∷ sizes) zero size at = let same : s ≡ size = same_Some s size at in omega (arith, same)
within_total (s ∷ sizes) (suc k) size at = let rest = within_total sizes k size at in omega (arith, rest)

-- numbers that move up
pub lift_below : (own more t : ℕ) → t < own → lift own more t ≡ t
lift_below own more t below = ap (λ c. cond c t (t + more)) (lt-ltb t own below)

-- numbers past a bound
pub lift_past : (own more t : ℕ) → own ≤ t → lift own more t ≡ t + more
lift_past own more t far = ap (λ c. cond c t (t + more)) (le-ltb t own far)

-- numbers among those of all
pub spread_below : (own before size total t : ℕ) → t < own → spread own before size total t ≡ t
spread_below own before size total t below =
    ap (λ c. cond c t (cond (ltb t (own + size)) (t + before) (t + (total - size)))) (lt-ltb t own below)

-- an extension's numbers
pub spread_middle : (own before size total t : ℕ) → own ≤ t → t < own + size → spread own before size total t ≡ t + before
spread_middle own before size total t far below =
    ap (λ c. cond c t (cond (ltb t (own + size)) (t + before) (t + (total - size)))) (le-ltb t own far) ∙
    ap (λ c. cond c (t + before) (t + (total - size))) (lt-ltb t (own + size) below)

-- numbers past both
pub spread_past : (own before size total t : ℕ) → own + size ≤ t → spread own before size total t ≡ t + (total - size)
spread_past own before size total t far =
    let over : own ≤ t = omega (arith, far) in
    ap (λ c. cond c t (cond (ltb t (own + size)) (t + before) (t + (total - size)))) (le-ltb t own over) ∙
    ap (λ c. cond c (t + before) (t + (total - size))) (le-ltb t (own + size) far)
