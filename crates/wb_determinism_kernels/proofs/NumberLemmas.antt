-- Numbers that are moved up: below and past a bound, and once each; and items that are moved so.
use Rattle.std.proofs.Common.{◌≡◌, ◌≢◌, ◌+◌, ◌-◌, ◌<◌, ◌≤◌, ◌∙◌, ◌⊎◌, ◌∷◌, [], List, ℕ, map, refl, sym, subst, inl, inr, arith}
use Rattle.std.specs.Prelude.{Contains}
use Rattle.std.proofs.lemmas.Bool.{cond_below, cond_above, cases_lt}
use Rattle.wb_lemmas.proofs.Members.{contains_cases, contains_first, contains_later, nothing_in}
use Rattle.wb_compose_theory.specs.Blocks.{lift}

pub lift_below : (own more n : ℕ) → n < own → lift own more n ≡ n
lift_below own more n below = sym (cond_below n own n (n + more) below)

pub lift_past : (own more n : ℕ) → own ≤ n → lift own more n ≡ n + more
lift_past own more n past = sym (cond_above n own n (n + more) (n + more) past refl)

-- no two numbers are moved to one
pub lift_once : (own more a b : ℕ) → lift own more a ≡ lift own more b → a ≡ b
lift_once own more a b same = both (cases_lt a own) (cases_lt b own)
  where
    both : (a < own) ⊎ (own ≤ a) → (b < own) ⊎ (own ≤ b) → a ≡ b
    both (inl x) (inl y) = sym (lift_below own more a x) ∙ same ∙ lift_below own more b y
    both (inl x) (inr y) =
        let p = lift_below own more a x in
        let q = lift_past own more b y in
        omega (arith, x, y, p, q, same)
    both (inr x) (inl y) =
        let p = lift_past own more a x in
        let q = lift_below own more b y in
        omega (arith, x, y, p, q, same)
    both (inr x) (inr y) =
        let p = lift_past own more a x in
        let q = lift_past own more b y in
        omega (arith, x, y, p, q, same)

-- a number between the host's own and what comes after the extension's is none that was moved
pub none_between : (own more number n : ℕ) → own ≤ number → number - own < more → number ≢ lift own more n
none_between own more number n from to same = by (cases_lt n own)
  where
    by : (n < own) ⊎ (own ≤ n) → ⊥
    by (inl below) = let p = lift_below own more n below in omega (arith, from, to, p, same)
    by (inr past) = let p = lift_past own more n past in omega (arith, from, to, p, same)

-- what a function makes of a member is a member of what it makes of the list
pub map_contains : {A B : Type 0} (f : A → B) (xs : List A) (x : A) → Contains xs x → Contains (map f xs) (f x)
map_contains f [] x has = absurd (nothing_in x has)
map_contains f (y ∷ xs) x has = elim (contains_cases y x xs has) [
  | inl same ↦ subst (λ z. Contains (map f (y ∷ xs)) (f z)) same (contains_first (f y) (map f xs))
  | inr later ↦ contains_later (f y) (f x) (map f xs) (map_contains f xs x later)
]

-- a member of what a function makes of a list is made of a member
pub contains_map : {A B : Type 0} (f : A → B) (xs : List A) (y : B) → Contains (map f xs) y → (x : A) × (y ≡ f x) × Contains xs x
contains_map f [] y has = absurd (nothing_in y has)
contains_map f (z ∷ xs) y has = elim (contains_cases (f z) y (map f xs) has) [
  | inl same ↦ (z, sym same, contains_first z xs)
  | inr later ↦ (let (x, is, there) = contains_map f xs y later in (x, is, contains_later z x xs there))
]
