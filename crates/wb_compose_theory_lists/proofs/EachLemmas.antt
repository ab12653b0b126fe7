-- Where the rows of each extension are, among those of a host and of all extensions.
use Rattle.std.proofs.Common.{◌≡◌, ◌∙◌, ◌+◌, ◌++◌, [], ℕ, suc, List, Some, Contains, length, map, option_map, slice_get}
use Rattle.std.proofs.Common.{sym, ap, subst, inl, inr, arith}
use Rattle.std.proofs.lemmas.List.{append-nil, length-append}
use Rattle.wb_lemmas.proofs.Members.{contains_at}
use Rattle.wb_syntax_resolved.specs.Owners.{Sees}
use Rattle.wb_compose_theory.specs.Blocks.{spread}
use Rattle.wb_compose_theory_grammar.specs.Places.{count_before, total_of}
use Rattle.wb_compose_theory_attributes.proofs.SeenLemmas.{mapped}
use Rattle.wb_compose_theory_lists.specs.Additions.{Rows, Addition, nothing}
use Rattle.wb_compose_theory_lists.specs.Joined.{joined, numbered, Block, place_after, place_grouped}
use Rattle.wb_compose_theory_lists.specs.Numbers.{block_of}
use Rattle.wb_compose_theory_lists.proofs.JoinedLemmas.{append_assoc, numbered_at, numbered_lengths, joined_length, IsOf, inserted}
use Rattle.wb_compose_theory_lists.proofs.JoinedLemmas.{inserted_from}
use Rattle.wb_compose_theory_lists.proofs.NumberLemmas.{IsMember}

-- owner o is the host, who adds nothing, or the extension of this number
pub data IsView (all : List Addition) (o k : ℕ) (x : Addition) : Type 0 where
  of_host : o ≡ 0 → x ≡ nothing → IsView all o k x
  of_own : o ≡ suc k → slice_get all k ≡ Some x → IsView all o k x

pub member_of : {all : List Addition} {o k : ℕ} {x : Addition} → IsView all o k x → IsMember all k x
member_of (of_host is none) = inl none
member_of (of_own is at) = inr at

pub numbered_first : {X Y : Type 0} (f : ℕ → X → Y) (xs : List X) (i : ℕ) → slice_get (numbered f 0 xs) i ≡ option_map (f i)
    (slice_get xs i)
numbered_first f xs i = let e : 0 + i ≡ i = omega arith in numbered_at f 0 xs i ∙ ap (λ z. option_map (f z) (slice_get xs i)) e

-- rows of each extension: nothing has none, those of an extension are its own, and there are so many
pub record AreRows {X : Type 0} (all : List Addition) (rows : ℕ → Addition → List X) (owner_of : X → ℕ) (size : Addition → ℕ) : Type 0 where
  pub none : (l : ℕ) → rows l nothing ≡ []
  pub owned : (l : ℕ) (y : Addition) → slice_get all l ≡ Some y → (z : X) → Contains (rows l y) z → owner_of z ≡ suc l
  pub count : (l : ℕ) (y : Addition) → length (rows l y) ≡ size y

module _ {X : Type 0} (host : Rows) (all : List Addition) (rows : ℕ → Addition → List X) (owner_of : X → ℕ) (size : Addition → ℕ)
    (are : AreRows all rows owner_of size) (o k : ℕ) (x : Addition) (view : IsView all o k x) where
  abbrev each : List (List X)
  each = numbered rows 0 all

  each_at : (l : ℕ) (y : Addition) → slice_get all l ≡ Some y → slice_get each l ≡ Some (rows l y)
  each_at l y at = numbered_first rows all l ∙ ap (option_map (rows l)) at

  is_of_in : IsView all o k x → IsOf each k (rows k x)
  is_of_in (of_host is none) = inl (ap (rows k) none ∙ are.none k)
  is_of_in (of_own is at) = inr (each_at k x at)

  is_of : IsOf each k (rows k x)
  is_of = is_of_in view

  mine_in : IsView all o k x → (l : ℕ) → o ≡ suc l → (l ≡ k) × (slice_get each k ≡ Some (rows k x))
  mine_in (of_host is none) l same = absurd (omega (arith, is, same))
  mine_in (of_own is at) l same = (omega (arith, is, same), each_at k x at)

  mine : (z : X) → Sees o (owner_of z) → (l : ℕ) (ys : List X) (i : ℕ) → slice_get each l ≡ Some ys → slice_get ys i ≡ Some z
      → (l ≡ k) × (slice_get each k ≡ Some (rows k x))
  mine z sees l ys i at has =
      let (y, at_y, same) = mapped (rows l) (slice_get all l) ys (sym (numbered_first rows all l) ∙ at) in
      let owner = are.owned l y at_y z (contains_at (rows l y) z i (subst (λ w. slice_get w i ≡ Some z) (sym same) has)) in
      elim sees [
        | inl host ↦ absurd (omega (arith, host, owner))
        | inr own ↦ mine_in view l (sym own ∙ owner)
      ]

  lengths : map length each ≡ map size all
  lengths = numbered_lengths rows size are.count 0 all

  pub total_is : length (joined each) ≡ total_of (map size all)
  total_is = joined_length each ∙ ap total_of lengths

  module _ (before rest : List X) (own : ℕ) (own_is : length before ≡ own) where
    place_is : (i : ℕ) → spread (length before) (count_before (map length each) k) (length (rows k x)) (total_of (map length each)) i
        ≡ place_after own (block_of host all size k x) i
    place_is i =
        ap (λ z. spread z (count_before (map length each) k) (length (rows k x)) (total_of (map length each)) i) own_is
        ∙ (ap (λ z. spread own (count_before z k) (length (rows k x)) (total_of z) i) lengths
        ∙ ap (λ z. spread own (count_before (map size all) k) z (total_of (map size all)) i) (are.count k x))

    pub placed : (i : ℕ) → slice_get (before ++ joined each ++ rest) (place_after own (block_of host all size k x) i)
        ≡ slice_get (before ++ rows k x ++ rest) i
    placed i = ap (slice_get (before ++ joined each ++ rest)) (sym (place_is i)) ∙ inserted before rest each k (rows k x) is_of i

    pub placed_from : (number : ℕ) (z : X) → slice_get (before ++ joined each ++ rest) number ≡ Some z → Sees o (owner_of z)
        → (i : ℕ) × (number ≡ place_after own (block_of host all size k x) i)
    placed_from number z at sees =
        let (i, is) = inserted_from before rest each k (rows k x) is_of number z at (mine z sees) in (i, is ∙ place_is i)

-- the same where some rows lead and some follow
module _ {X : Type 0} (host : Rows) (all : List Addition) (rows others : ℕ → Addition → List X) (owner_of : X → ℕ)
    (size count : Addition → ℕ) (are : AreRows all rows owner_of size) (are' : AreRows all others owner_of count) (o k : ℕ) (x : Addition)
    (view : IsView all o k x) (leading following : List X) (lead follow : ℕ) (lead_is : length leading ≡ lead)
    (follow_is : length following ≡ follow) where
  abbrev b : Block
  b = block_of host all size k x

  abbrev c : Block
  c = block_of host all count k x

  abbrev first : List X
  first = leading ++ joined (numbered rows 0 all) ++ following

  abbrev union : List X
  union = first ++ joined (numbered others 0 all)

  abbrev one : List X
  one = leading ++ rows k x ++ following ++ others k x

  abbrev own : ℕ
  own = lead + total_of (map size all) + follow

  first_length : length first ≡ own
  first_length =
      let total = total_is host all rows owner_of size are o k x view in
      let outer = length-append (leading ++ joined (numbered rows 0 all)) following in
      let inner = length-append leading (joined (numbered rows 0 all)) in
      omega (arith, total, outer, inner, lead_is, follow_is)

  -- the two steps
  last_step : (i : ℕ) → slice_get union (place_after own c i) ≡ slice_get (first ++ others k x) i
  last_step i =
      ap (λ z. slice_get z (place_after own c i)) (sym (append-nil union))
      ∙ (placed host all others owner_of count are' o k x view first [] own first_length i
      ∙ ap (λ z. slice_get z i) (append-nil (first ++ others k x)))

  abbrev rest : List X
  rest = following ++ others k x

  regroup : (middle : List X) (i : ℕ) → slice_get (leading ++ middle ++ following ++ others k x) i ≡ slice_get (leading ++ middle ++ rest) i
  regroup middle i = ap (λ z. slice_get z i) (append_assoc (leading ++ middle) following (others k x))

  first_step : (i : ℕ) → slice_get (first ++ others k x) (place_after lead b i) ≡ slice_get one i
  first_step i =
      regroup (joined (numbered rows 0 all)) (place_after lead b i)
      ∙ (placed host all rows owner_of size are o k x view leading rest lead lead_is i ∙ sym (regroup (rows k x) i))

  pub grouped_placed : (i : ℕ) → slice_get union (place_grouped lead follow b c i) ≡ slice_get one i
  grouped_placed i = last_step (place_after lead b i) ∙ first_step i

  pub grouped_from : (number : ℕ) (z : X) → slice_get union number ≡ Some z → Sees o (owner_of z)
      → (i : ℕ) × (number ≡ place_grouped lead follow b c i)
  grouped_from number z at sees =
      let again = ap (λ w. slice_get w number) (append-nil union) ∙ at in
      let (j, is) = placed_from host all others owner_of count are' o k x view first [] own first_length number z again sees in
      let there = sym (last_step j) ∙ (ap (slice_get union) (sym is) ∙ at) in
      let inside = sym (regroup (joined (numbered rows 0 all)) j) ∙ there in
      let (i, is') = placed_from host all rows owner_of size are o k x view leading rest lead lead_is j z inside sees in
      (i, is ∙ ap (place_after own c) is')
