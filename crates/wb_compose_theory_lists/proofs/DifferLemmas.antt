-- Lists of a union in which nothing is there twice, and whose owners are there.
use Rattle.std.proofs.Common.{◌≡◌, ◌∙◌, ◌<◌, ◌≤◌, ◌+◌, ◌++◌, ℕ, suc, List, Some, Contains, length, map, option_map, slice_get}
use Rattle.std.proofs.Common.{sym, ap, subst, inl, inr, arith}
use Rattle.std.proofs.lemmas.Option.{slice_get-map, slice_get_within, same_Some}
use Rattle.wb_base.specs.Different.{Differ}
use Rattle.wb_lemmas.proofs.Members.{contains_at}
use Rattle.wb_lemmas.proofs.Places.{at_append}
use Rattle.wb_compose_theory_grammar.specs.Places.{count_before}
use Rattle.wb_compose_theory_attributes.proofs.SeenLemmas.{mapped}
use Rattle.wb_compose_theory_lists.specs.Additions.{Addition}
use Rattle.wb_compose_theory_lists.specs.Joined.{joined, numbered}
use Rattle.wb_compose_theory_lists.proofs.EachLemmas.{AreRows, numbered_first}
use Rattle.wb_compose_theory_lists.proofs.JoinedLemmas.{From, joined_from}

-- what the images of a list have, where equal images are of one place
pub differ_map : {X Y : Type 0} (f : X → Y) (xs : List X)
    → ((i j : ℕ) (x y : X) → slice_get xs i ≡ Some x → slice_get xs j ≡ Some y → f x ≡ f y → i ≡ j) → Differ (map f xs)
differ_map f xs once z i j at at' =
    let (x, has, is) = mapped f (slice_get xs i) z (sym (slice_get-map f xs i) ∙ at) in
    let (y, has', is') = mapped f (slice_get xs j) z (sym (slice_get-map f xs j) ∙ at') in
    once i j x y has has' (is ∙ sym is')

-- the same by keys that differ
pub keys_differ : {X K : Type 0} (key : X → K) (xs : List X) → Differ (map key xs) → (i j : ℕ) (x y : X) → slice_get xs i ≡ Some x
    → slice_get xs j ≡ Some y → key x ≡ key y → i ≡ j
keys_differ key xs differ i j x y at at' same =
    differ (key y) i j (slice_get-map key xs i ∙ (ap (option_map key) at ∙ ap Some same)) (slice_get-map key xs j ∙ ap (option_map key) at')

-- rows of an extension are its own
pub each_owned : {X : Type 0} (all : List Addition) (rows : ℕ → Addition → List X) (owner_of : X → ℕ) (size : Addition → ℕ)
    → AreRows all rows owner_of size → (k : ℕ) (xs : List X) → slice_get (numbered rows 0 all) k ≡ Some xs
    → (y : Addition) × (slice_get all k ≡ Some y) × (rows k y ≡ xs)
each_owned all rows owner_of size are k xs at = mapped (rows k) (slice_get all k) xs (sym (numbered_first rows all k) ∙ at)

module _ {X : Type 0} (all : List Addition) (rows : ℕ → Addition → List X) (owner_of : X → ℕ) (size : Addition → ℕ)
    (are : AreRows all rows owner_of size) (hosts : List X) (host_is : (x : X) → Contains hosts x → owner_of x ≡ 0) where
  abbrev each : List (List X)
  each = numbered rows 0 all

  pub own_is : (k : ℕ) (xs : List X) (x : X) → slice_get each k ≡ Some xs → Contains xs x → owner_of x ≡ suc k
  own_is k xs x at has =
      let (y, at_y, same) = each_owned all rows owner_of size are k xs at in
      are.owned k y at_y x (subst (λ z. Contains z x) (sym same) has)

  -- owners are there
  pub owner_within : (i : ℕ) (x : X) → slice_get (hosts ++ joined each) i ≡ Some x → owner_of x ≤ length all
  owner_within i x at = elim (at_append hosts (joined each) x i at) [
    | inl here ↦ let none = host_is x (contains_at hosts x i here) in omega (arith, none)
    | inr (j, is, there) ↦
        let a = joined_from each j x there in
        let (y, at_y, same) = each_owned all rows owner_of size are a.k a.xs a.at in
        let owner = own_is a.k a.xs x a.at (contains_at a.xs x a.i a.has) in
        let less : a.k < length all = slice_get_within all a.k y at_y in
        omega (arith, owner, less)
  ]

  -- nothing is there twice, where nothing is in one of the lists
  one_block : (i j : ℕ) (x : X) → ((k : ℕ) (xs : List X) → slice_get each k ≡ Some xs → Differ xs) → (a : From each i x) (b : From each j x)
      → i ≡ j
  one_block i j x differ a b =
      let one = own_is a.k a.xs x a.at (contains_at a.xs x a.i a.has) in
      let two = own_is b.k b.xs x b.at (contains_at b.xs x b.i b.has) in
      let k_is : a.k ≡ b.k = omega (arith, one, two) in
      let there = subst (λ z. slice_get each z ≡ Some a.xs) k_is a.at in
      let lists : a.xs ≡ b.xs = same_Some a.xs b.xs (sym there ∙ b.at) in
      let here = subst (λ z. slice_get z a.i ≡ Some x) lists a.has in
      let places : a.i ≡ b.i = differ b.k b.xs b.at x a.i b.i here b.has in
      let count : count_before (map length each) a.k ≡ count_before (map length each) b.k = ap (count_before (map length each)) k_is in
      let i_is = a.is in
      let j_is = b.is in
      omega (arith, places, count, i_is, j_is)

  pub differ_joined : Differ hosts → ((k : ℕ) (xs : List X) → slice_get each k ≡ Some xs → Differ xs) → Differ (hosts ++ joined each)
  differ_joined host_differ differ x i j at at' = elim (at_append hosts (joined each) x i at) [
    | inl here ↦ elim (at_append hosts (joined each) x j at') [
      | inl there ↦ host_differ x i j here there
      | inr (m, is', there) ↦ absurd (apart i m x here (joined_from each m x there))
    ]
    | inr (l, is, here) ↦ elim (at_append hosts (joined each) x j at') [
      | inl there ↦ absurd (apart j l x there (joined_from each l x here))
      | inr (m, is', there) ↦
          let same = one_block l m x differ (joined_from each l x here) (joined_from each m x there) in
          is ∙ (ap (λ z. length hosts + z) same ∙ sym is')
    ]
  ] where
    apart : (i m : ℕ) (x : X) → slice_get hosts i ≡ Some x → From each m x → ⊥
    apart i m x here b =
        let none = host_is x (contains_at hosts x i here) in
        let owner = own_is b.k b.xs x b.at (contains_at b.xs x b.i b.has) in
        omega (arith, none, owner)
