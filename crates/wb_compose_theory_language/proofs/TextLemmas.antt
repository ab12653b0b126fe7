-- Names before a colon, and lists of pairs of numbers.
use Rattle.std.proofs.Common.{◌≡◌, ◌≢◌, ◌∙◌, ◌⊎◌, ◌∷◌, ◌++◌, [], ℕ, List, append_assoc, ap, inl, inr, refl, subst, sym}
use Rattle.std.specs.Prelude.{All, Contains}
use Rattle.std.specs.List.{AllByRecursion}
use Rattle.std.proofs.lemmas.Bool.{cases_eq}
use Rattle.std.proofs.lemmas.List.Elements.{recursion_from_All}
use Rattle.wb_lemmas.proofs.Members.{contains_cases, contains_first, contains_later, nothing_in}
use Rattle.wb_lexical.specs.Clash.{AreOrdered}
use Rattle.wb_compose_theory_language.specs.Written.{WrittenPiece}
use Rattle.wb_compose_theory_language.specs.Apart.{colon}
use Rattle.wb_compose_theory_language.specs.Forms.{prefix_of}

first_same : (x y : ℕ) (xs ys : List ℕ) → x ∷ xs ≡ y ∷ ys → x ≡ y
first_same x y xs ys e = cc

rest_same : (x y : ℕ) (xs ys : List ℕ) → x ∷ xs ≡ y ∷ ys → xs ≡ ys
rest_same x y xs ys e = cc

cons_same : (x y : ℕ) (xs ys : List ℕ) → x ≡ y → xs ≡ ys → x ∷ xs ≡ y ∷ ys
cons_same x y xs ys e f = λ j. e j ∷ f j

-- what comes before the first colon
cut : (p q a b : List ℕ) → AllByRecursion (λ c. c ≢ colon) p → AllByRecursion (λ c. c ≢ colon) q → p ++ colon ∷ a ≡ q ++ colon ∷ b →
    (p ≡ q) × (a ≡ b)
cut [] [] a b f g e = (refl, rest_same colon colon a b e)
cut [] (y ∷ q) a b f g e = absurd (g.0 (sym (first_same colon y a (q ++ colon ∷ b) e)))
cut (x ∷ p) [] a b f g e = absurd (f.0 (first_same x colon (p ++ colon ∷ a) b e))
cut (x ∷ p) (y ∷ q) a b f g e =
    let k = cut p q a b f.1 g.1 (rest_same x y (p ++ colon ∷ a) (q ++ colon ∷ b) e) in
    (cons_same x y p q (first_same x y (p ++ colon ∷ a) (q ++ colon ∷ b) e) k.0, k.1)

no_snoc : (p a : List ℕ) (c : ℕ) → p ++ c ∷ a ≡ [] → ⊥
no_snoc [] a c e = cc
no_snoc (x ∷ p) a c e = cc

-- a prefix isn't empty
pub prefix_some : (x : WrittenPiece) → prefix_of x ≢ []
prefix_some x is = no_snoc x.name (colon ∷ []) colon is

-- two prefixes with which one text begins are one, and so is what follows
pub same_prefix : (x y : WrittenPiece) (a b : List ℕ) → All (λ c. c ≢ colon) x.name → All (λ c. c ≢ colon) y.name →
    prefix_of x ++ a ≡ prefix_of y ++ b → (x.name ≡ y.name) × (a ≡ b)
same_prefix x y a b cx cy is =
    let is' : x.name ++ (colon ∷ colon ∷ a) ≡ y.name ++ (colon ∷ colon ∷ b) =
    sym (append_assoc x.name (colon ∷ colon ∷ []) a) ∙ (is ∙ append_assoc y.name (colon ∷ colon ∷ []) b) in
    let k = cut x.name y.name (colon ∷ a) (colon ∷ b) (recursion_from_All (λ c. c ≢ colon) x.name cx)
    (recursion_from_All (λ c. c ≢ colon) y.name cy) is' in
    (k.0, rest_same colon colon a b k.1)

-- whether a pair is listed
pair_decided : (p q : ℕ × ℕ) → (p ≡ q) ⊎ (p ≢ q)
pair_decided p q = go (cases_eq p.0 q.0) (cases_eq p.1 q.1)
  where
    go : (p.0 ≡ q.0) ⊎ (p.0 ≢ q.0) → (p.1 ≡ q.1) ⊎ (p.1 ≢ q.1) → (p ≡ q) ⊎ (p ≢ q)
    go (inl e) (inl f) = inl (λ j. (e j, f j))
    go (inr ne) k = inr (λ e. ne (ap (λ (z : ℕ × ℕ). z.0) e))
    go (inl e) (inr ne) = inr (λ f. ne (ap (λ (z : ℕ × ℕ). z.1) f))

listed_decided : (pairs : List (ℕ × ℕ)) (p : ℕ × ℕ) → Contains pairs p ⊎ (¬ Contains pairs p)
listed_decided [] p = inr (λ h. nothing_in p h)
listed_decided (q ∷ pairs) p = go (pair_decided q p) (listed_decided pairs p)
  where
    go : (q ≡ p) ⊎ (q ≢ p) → Contains pairs p ⊎ (¬ Contains pairs p) → Contains (q ∷ pairs) p ⊎ (¬ Contains (q ∷ pairs) p)
    go (inl e) k = inl (subst (λ z. Contains (q ∷ pairs) z) e (contains_first q pairs))
    go (inr ne) (inl h) = inl (contains_later q p pairs h)
    go (inr ne) (inr out) = inr (λ h. elim (contains_cases q p pairs h) [ inl e ↦ ne e | inr more ↦ out more ])

-- two terminals that aren't unordered are ordered
pub ordered_stable : (pairs : List (ℕ × ℕ)) (t u : ℕ) → ¬ ¬ AreOrdered pairs t u → AreOrdered pairs t u
ordered_stable pairs t u twice = go (listed_decided pairs (t, u)) (listed_decided pairs (u, t))
  where
    go : Contains pairs (t, u) ⊎ (¬ Contains pairs (t, u)) → Contains pairs (u, t) ⊎ (¬ Contains pairs (u, t)) → AreOrdered pairs t u
    go (inl h) k = inl h
    go (inr out) (inl h) = inr h
    go (inr out) (inr none) = absurd (twice (λ (o : AreOrdered pairs t u). elim o [ inl h ↦ out h | inr h ↦ none h ]))
