-- Owners rise in the lists of a union.
use Rattle.std.proofs.Common.{◌≡◌, ◌∙◌, ◌<◌, ◌≤◌, ◌+◌, ◌++◌, ◌∷◌, [], ℕ, zero, suc, List, Some, Contains, length, map, slice_get, refl, sym}
use Rattle.std.proofs.Common.{ap}
use Rattle.std.proofs.Common.{inl, inr, arith}
use Rattle.std.proofs.lemmas.Bool.{cases_lt}
use Rattle.std.proofs.lemmas.Option.{slice_get_within, same_Some}
use Rattle.wb_lemmas.proofs.Members.{contains_at}
use Rattle.wb_lemmas.proofs.Places.{nothing_at, at_append}
use Rattle.wb_compose_theory_grammar.specs.Places.{count_before}
use Rattle.wb_compose_theory_lists.specs.Joined.{joined, grouped}
use Rattle.wb_compose_theory_lists.proofs.JoinedLemmas.{From, joined_from}

-- a later list begins where an earlier one has ended
before_later : {X : Type 0} (xss : List (List X)) (k l : ℕ) (xs : List X) → slice_get xss k ≡ Some xs → k < l
    → count_before (map length xss) k + length xs ≤ count_before (map length xss) l
before_later [] k l xs at less = absurd (nothing_at xs k at)
before_later (ys ∷ xss) zero zero xs at less = absurd (omega (arith, less))
before_later (ys ∷ xss) zero (suc l) xs at less =
    let same : ys ≡ xs = same_Some ys xs at in
    let sizes : length ys ≡ length xs = ap length same in
    omega (arith, sizes)
before_later (ys ∷ xss) (suc k) zero xs at less = absurd (omega (arith, less))
before_later (ys ∷ xss) (suc k) (suc l) xs at less =
    let rest = before_later xss k l xs at (omega (arith, less)) in omega (arith, rest)

-- elements of lists in order are of lists in order
in_order : {X : Type 0} (xss : List (List X)) (i j : ℕ) (x y : X) → i < j → (a : From xss i x) (b : From xss j y) → a.k ≤ b.k
in_order xss i j x y less a b = elim (cases_lt b.k a.k) [
  | inl back ↦
      let past = before_later xss b.k a.k b.xs b.at back in
      let within : b.i < length b.xs = slice_get_within b.xs b.i y b.has in
      let i_is = a.is in
      let j_is = b.is in
      absurd (omega (arith, less, past, within, i_is, j_is))
  | inr fine ↦ fine
]

-- the host's come first, and those of each extension by its number
module _ {X : Type 0} (owner_of : X → ℕ) (hosts : List X) (xss : List (List X)) (host_is : (x : X) → Contains hosts x → owner_of x ≡ 0)
    (own_is : (k : ℕ) (xs : List X) (x : X) → slice_get xss k ≡ Some xs → Contains xs x → owner_of x ≡ suc k) where
  pub owner_from : (i : ℕ) (x : X) → From xss i x → (k : ℕ) × (owner_of x ≡ suc k)
  owner_from i x a = (a.k, own_is a.k a.xs x a.at (contains_at a.xs x a.i a.has))

  pub owners_rise : (i j : ℕ) (x y : X) → i < j → slice_get (hosts ++ joined xss) i ≡ Some x → slice_get (hosts ++ joined xss) j ≡ Some y
      → owner_of x ≤ owner_of y
  owners_rise i j x y less at at' = elim (at_append hosts (joined xss) x i at) [
    | inl here ↦ let none = host_is x (contains_at hosts x i here) in omega (arith, none)
    | inr (l, is, here) ↦ elim (at_append hosts (joined xss) y j at') [
      | inl there ↦
          let within : j < length hosts = slice_get_within hosts j y there in absurd (omega (arith, is, within, less))
      | inr (m, is', there) ↦
          let a = joined_from xss l x here in
          let b = joined_from xss m y there in
          let order = in_order xss l m x y (omega (arith, is, is', less)) a b in
          let one = own_is a.k a.xs x a.at (contains_at a.xs x a.i a.has) in
          let two = own_is b.k b.xs y b.at (contains_at b.xs y b.i b.has) in
          omega (arith, order, one, two)
    ]
  ]

-- in two groups
module _ {X : Type 0} (owner_of : X → ℕ) (leading : List X) (leads : List (List X)) (following : List X) (follows : List (List X)) where
  abbrev lead : List X
  lead = leading ++ joined leads

  abbrev follow : List X
  follow = following ++ joined follows

  -- which group an element is in
  pub data Group (i : ℕ) (x : X) : Type 0 where
    in_lead : slice_get lead i ≡ Some x → Group i x
    in_follow : (j : ℕ) → i ≡ length lead + j → slice_get follow j ≡ Some x → Group i x

  regrouped : leading ++ joined leads ++ following ++ joined follows ≡ lead ++ follow
  regrouped = assoc lead following (joined follows) where
    assoc : (xs ys zs : List X) → (xs ++ ys) ++ zs ≡ xs ++ (ys ++ zs)
    assoc [] ys zs = refl
    assoc (x ∷ xs) ys zs = ap (λ z. x ∷ z) (assoc xs ys zs)

  pub group_of : (i : ℕ) (x : X) → slice_get (grouped leading leads following follows) i ≡ Some x → Group i x
  group_of i x at = elim (at_append lead follow x i (ap (λ z. slice_get z i) (sym regrouped) ∙ at)) [
    | inl here ↦ in_lead here
    | inr (j, is, there) ↦ in_follow j is there
  ]
