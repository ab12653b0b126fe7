-- What two versions of a list have in common at their beginning.
use Rattle.std.proofs.Common.{◌≡◌, ◌≤◌, ◌-◌, ℕ, zero, suc, List, [], ◌∷◌, ◌++◌, length, take, drop, sym, ◌∙◌, ap, arith}
use Rattle.std.specs.Prelude.{OnOk, Result, Ok, Err}
use Rattle.std.proofs.lemmas.List.{length-take-le, take-take}

-- fewer of what is common
pub fewer_common : {X : Type 0} (xs ys : List X) (m n : ℕ) → m ≤ n → take n ys ≡ take n xs → take m ys ≡ take m xs
fewer_common xs ys m n le same = sym (take-take m n ys le) ∙ ap (take m) same ∙ take-take m n xs le

-- the first elements, and those after them up to a place
pub first_parts : {X : Type 0} (s n : ℕ) (xs : List X) → s ≤ n → n ≤ length xs → take s xs ++ take (n - s) (drop s xs) ≡ take n xs
first_parts zero n xs le within = let all : n - 0 ≡ n = omega arith in ap (λ k. take k xs) all
first_parts (suc s) zero xs le within = absurd (omega arith)
first_parts (suc s) (suc n) [] le within = absurd (omega arith)
first_parts (suc s) (suc n) (x ∷ xs) le within =
    let less : suc n - suc s ≡ n - s = omega arith in
    ap (λ k. x ∷ (take s xs ++ take k (drop s xs))) less ∙ ap (λ z. x ∷ z) (first_parts s n xs (omega arith) (omega arith))

-- a list that begins as another does up to a place, with the rest up to a further one
pub taken_first : {X : Type 0} (xs ys zs : List X) (common shared count : ℕ) → shared ≤ common → shared ≤ count → count ≤ length xs →
    take common ys ≡ take common xs → zs ≡ take shared ys ++ take (count - shared) (drop shared xs) → zs ≡ take count xs
taken_first xs ys zs common shared count le less within same is =
    is ∙ ap (λ z. z ++ take (count - shared) (drop shared xs)) (fewer_common xs ys shared common le same)
    ∙ first_parts shared count xs less within

-- what is added to such a list leaves in common what it was made of
pub common_after : {X : Type 0} (xs ys zs : List X) (n k : ℕ) → n ≤ length xs → ys ≡ take n xs → take (length ys) zs ≡ ys → k ≡ n →
    take k zs ≡ take k xs
common_after xs ys zs n k within is begins k_is =
    let size : length ys ≡ n = ap length is ∙ length-take-le n xs within in
    ap (λ j. take j zs) (k_is ∙ sym size) ∙ (begins ∙ is) ∙ ap (λ j. take j xs) (sym k_is)

-- the list and what was made of it turned around
pub common_turned : {X : Type 0} (xs ys : List X) (n k : ℕ) → ys ≡ take n xs → k ≡ n → take k xs ≡ take k ys
common_turned xs ys n k is k_is =
    ap (λ j. take j xs) k_is ∙ sym (take-take n n xs (omega arith)) ∙ sym (ap (take n) is) ∙ sym (ap (λ j. take j ys) k_is)

-- what is added to a list leaves what it has in common with another
pub common_more : {X : Type 0} (xs xs' ys : List X) (k : ℕ) → k ≤ length xs → take (length xs) xs' ≡ xs → take k ys ≡ take k xs →
    take k ys ≡ take k xs'
common_more xs xs' ys k within begins same = same ∙ ap (take k) (sym begins) ∙ take-take k (length xs) xs' within

-- nothing is in common at first
pub none_common : {X : Type 0} (xs ys : List X) (k : ℕ) → k ≡ 0 → take k ys ≡ take k xs
none_common xs ys k none = ap (λ j. take j ys) none ∙ sym (ap (λ j. take j xs) none)

-- what holds, holds after a success
pub on_ok : {X E : Type 0} (r : Result X E) {P : Type 0} → P → OnOk r P
on_ok (Ok x) p = p
on_ok (Err e) p = tt
