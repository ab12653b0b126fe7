-- Counts and texts that grow by one element more.
use Rattle.std.proofs.Common.{◌≡◌, ◌+◌, ◌<◌, ◌∙◌, ℕ, zero, suc, Bool, true, false, cond, List, [], ◌∷◌, ◌++◌, map, take, length, get_or, sym, ap, refl, arith}
use Rattle.std.specs.List.{count_by}
use Rattle.std.proofs.lemmas.List.Sums.{count_by_more_no, count_by_more_yes}
use Rattle.wb_lemmas.proofs.Parts.{append_assoc}

-- how many pass a test, with one element more
pub counted_more : (p : ℕ → Bool) (xs : List ℕ) (i count next : ℕ) (test : Bool) → i < length xs → count ≡ count_by p (take i xs)
    → test ≡ p (get_or xs i 0) → next ≡ count + cond test 1 0 → next ≡ count_by p (take (i + 1) xs)
counted_more p xs i count next true within was is now =
    now ∙ (ap (λ (n : ℕ). n + 1) was ∙ sym (count_by_more_yes p xs i 0 within (sym is)))
counted_more p xs i count next false within was is now =
    let same : next ≡ count = omega (arith, now) in
    same ∙ (was ∙ sym (count_by_more_no p xs i 0 within (sym is)))

-- what is made of the elements so far, with one more
map_more : (f : ℕ → ℕ) (xs : List ℕ) (i : ℕ) → i < length xs → map f (take (i + 1) xs) ≡ map f (take i xs) ++ f (get_or xs i 0) ∷ []
map_more f [] i within = absurd (omega (arith, within))
map_more f (x ∷ xs) zero within = refl
map_more f (x ∷ xs) (suc i) within =
    let count : suc i + 1 ≡ suc (i + 1) = omega arith in
    ap (λ (k : ℕ). map f (take k (x ∷ xs))) count ∙ ap (λ ys. f x ∷ ys) (map_more f xs i (omega (arith, within)))

-- what was pushed, with one element more
pub mapped_more : (f : ℕ → ℕ) (xs before out after : List ℕ) (i y : ℕ) → i < length xs → out ≡ before ++ map f (take i xs)
    → y ≡ f (get_or xs i 0) → after ≡ out ++ y ∷ [] → after ≡ before ++ map f (take (i + 1) xs)
mapped_more f xs before out after i y within was is now =
    now ∙ (ap (λ ys. ys ++ y ∷ []) was ∙ (append_assoc before (map f (take i xs)) (y ∷ [])
    ∙ ap (λ ys. before ++ ys) (ap (λ z. map f (take i xs) ++ z ∷ []) is ∙ sym (map_more f xs i within))))
