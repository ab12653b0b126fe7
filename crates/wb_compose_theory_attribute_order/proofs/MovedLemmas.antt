-- Numbers that are moved among those of the extensions alone stay on their side of a later bound.
use Rattle.std.proofs.Common.{◌≡◌, ◌<◌, ◌≤◌, ◌+◌, ◌-◌, ◌∙◌, [], ◌∷◌, ℕ, suc, List, Some, map, slice_get, refl, sym, ap, inl, inr, arith}
use Rattle.std.proofs.lemmas.Bool.{cases_lt}
use Rattle.wb_compose_theory_order.proofs.NumberLemmas.{reordering_map, to_below, to_extension, to_host_spread, to_past, to_spread}
use Rattle.wb_compose_theory_order.specs.Orders.{IsReordering, number_to}
use Rattle.wb_compose_theory.specs.Blocks.{spread}
use Rattle.wb_compose_theory_grammar.proofs.FactLemmas.{at_map}
use Rattle.wb_compose_theory_grammar.proofs.PlaceLemmas.{Located, after_all, in_extension, in_host, located}
use Rattle.wb_compose_theory_grammar.specs.Places.{count_before, total_of}
use Rattle.wb_compose_theory_lists.specs.Additions.{Addition, Rows, nothing}
use Rattle.wb_compose_theory_lists.specs.Joined.{Block, place_after}
use Rattle.wb_compose_theory_lists.specs.Numbers.{block_of}
use Rattle.wb_compose_theory_lists.proofs.PlacedLemmas.{after_middle, after_past}
use Rattle.wb_compose_theory_attribute_order.specs.Orders.{moved}
use Rattle.wb_compose_theory_attribute_order.proofs.TotalLemmas.{total_same}

module _ (own : ℕ) {to from : ℕ → ℕ} {sizes others : List ℕ} (re : IsReordering to from sizes others) where
  -- past all extensions nothing moves
  pub moved_past : (z : ℕ) → own + total_of sizes ≤ z → number_to own sizes others to z ≡ z
  moved_past z far =
      let total = total_same re in
      let moved = to_past own re (z - (own + total_of sizes)) z (omega (arith, far)) in
      omega (arith, moved, total, far)

  -- below a later bound numbers stay below it
  pub moved_below : (bound z : ℕ) → own + total_of sizes ≤ bound → z < bound → number_to own sizes others to z < bound
  moved_below bound z over less = elim (cases_lt z (own + total_of sizes)) [
    | inl near ↦
        let total = total_same re in let there = to_below own re z near in omega (arith, total, there, over)
    | inr far ↦ let is = moved_past z far in omega (arith, is, less)
  ]

  -- and from the host's on they stay there
  pub moved_far : (z : ℕ) → own ≤ z → own ≤ number_to own sizes others to z
  moved_far z far = go (located own sizes z) where
    go : Located own sizes z → own ≤ number_to own sizes others to z
    go (in_host below) = absurd (omega (arith, below, far))
    go (in_extension k size i at within is) = let there = to_extension own re k size i z at within is in omega (arith, there)
    go (after_all j is) = let there = to_past own re j z is in omega (arith, there)

  -- so numbers that are moved from the bound on may be moved first
  pub moved_first : (bound : ℕ) → own + total_of sizes ≤ bound → (g : ℕ → ℕ) → ((z : ℕ) → z < bound → g z ≡ z)
      → ((z : ℕ) → bound ≤ z → bound ≤ g z) → (z : ℕ) → number_to own sizes others to (g z) ≡ g (number_to own sizes others to z)
  moved_first bound over g stays goes z = elim (cases_lt z bound) [
    | inl less ↦
        ap (number_to own sizes others to) (stays z less) ∙ sym (stays (number_to own sizes others to z) (moved_below bound z over less))
    | inr far ↦
        let there = goes z far in
        moved_past (g z) (omega (arith, there, over)) ∙ sym (ap g (moved_past z (omega (arith, far, over))))
  ]

-- numbers of an extension's block
pub after_far : (own : ℕ) (b : Block) (z : ℕ) → own ≤ z → own ≤ place_after own b z
after_far own b z far = elim (cases_lt z (own + b.size)) [
  | inl less ↦ let is = after_middle own b z (z + b.before) far less refl in omega (arith, is, far)
  | inr over ↦ let is = after_past own b z (z + (b.total - b.size)) over refl in omega (arith, is, far)
]

none_before : (sizes : List ℕ) → count_before sizes 0 ≡ 0
none_before [] = refl
none_before (size ∷ sizes) = refl

-- the same owner in both orders: the host, who adds nothing, or an extension, at two places
pub data IsIn (all others : List Addition) (to : ℕ → ℕ) : (owner other k l : ℕ) → Addition → Type 0 where
  host_in : IsIn all others to 0 0 0 0 nothing
  extension_in : {k : ℕ} {x : Addition} {owner other l : ℕ} → owner ≡ suc k → other ≡ suc l → l ≡ to k → slice_get all k ≡ Some x
      → slice_get others l ≡ Some x → IsIn all others to owner other k l x

module _ (host : Rows) {all others : List Addition} {to from : ℕ → ℕ} (re : IsReordering to from all others) where
  -- numbers of an owner move to its numbers
  pub after_moved : {owner other k l : ℕ} {x : Addition} → IsIn all others to owner other k l x → (size : Addition → ℕ) → size nothing ≡ 0
      → (own i : ℕ) → moved host all others to own size (place_after own (block_of host all size k x) i)
      ≡ place_after own (block_of host others size l x) i
  after_moved host_in size none own i =
      let before = none_before (map size all) in
      let behind = none_before (map size others) in
      ap (number_to own (map size all) (map size others) to) (λ z. spread own (before z) (none z) (total_of (map size all)) i)
      ∙ (to_host_spread own (reordering_map size re) i ∙ sym (λ z. spread own (behind z) (none z) (total_of (map size others)) i))
  after_moved (extension_in {k = k} {x = x} is is' l_is at at') size none own i =
      to_spread own (reordering_map size re) k (size x) i (at_map size all k x at)
      ∙ ap (λ z. spread own (count_before (map size others) z) (size x) (total_of (map size others)) i) (sym l_is)
