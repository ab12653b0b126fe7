-- Numbers of two groups move as those of one do, and back.
use Rattle.std.proofs.Common.{◌≡◌, ◌+◌, ◌∙◌, ℕ, List, map, sym, ap, arith}
use Rattle.wb_compose_theory_order.proofs.NumberLemmas.{number_back, reordering_back, reordering_map, to_host}
use Rattle.wb_compose_theory_order.specs.Orders.{IsReordering}
use Rattle.wb_compose_theory_grammar.specs.Places.{total_of}
use Rattle.wb_compose_theory_lists.specs.Additions.{Addition, Rows, nothing}
use Rattle.wb_compose_theory_lists.specs.Joined.{place_after, place_grouped}
use Rattle.wb_compose_theory_lists.specs.Numbers.{block_of}
use Rattle.wb_compose_theory_lists.proofs.PlacedLemmas.{after_below}
use Rattle.wb_compose_theory_attribute_order.specs.Orders.{moved, moved_grouped}
use Rattle.wb_compose_theory_attribute_order.proofs.MovedLemmas.{IsIn, after_far, after_moved, moved_far, moved_first}
use Rattle.wb_compose_theory_attribute_order.proofs.TotalLemmas.{total_same}

module _ (host : Rows) {all others : List Addition} {to from : ℕ → ℕ} (re : IsReordering to from all others)
    (leading following : ℕ) (lead follow : Addition → ℕ) where
  -- how many come before those of extensions that follow
  pub bound_same : leading + total_of (map lead all) + following ≡ leading + total_of (map lead others) + following
  bound_same = ap (λ z. leading + z + following) (total_same (reordering_map lead re))

  abbrev bound : ℕ
  bound = leading + total_of (map lead all) + following

  pub grouped_moved : {owner other k l : ℕ} {x : Addition} → IsIn all others to owner other k l x → lead nothing ≡ 0 → follow nothing ≡ 0
      → (i : ℕ) → moved_grouped host all others to leading following lead follow
      (place_grouped leading following (block_of host all lead k x) (block_of host all follow k x) i)
      ≡ place_grouped leading following (block_of host others lead l x) (block_of host others follow l x) i
  grouped_moved {k = k} {l = l} {x = x} is none none' i =
      let b = block_of host all lead k x in
      let c = block_of host all follow k x in
      let c' = block_of host others follow l x in
      ap (moved host all others to bound follow)
      (moved_first leading (reordering_map lead re) bound (omega arith) (place_after bound c) (λ z less. after_below bound c z less)
      (λ z far. after_far bound c z far) (place_after leading b i)
      ∙ ap (place_after bound c) (after_moved host re is lead none leading i))
      ∙ (after_moved host re is follow none' bound (place_after leading (block_of host others lead l x) i)
      ∙ ap (λ z. place_after z c' (place_after leading (block_of host others lead l x) i)) bound_same)

module _ (host : Rows) {all others : List Addition} {to from : ℕ → ℕ} (re : IsReordering to from all others)
    (leading following : ℕ) (lead follow : Addition → ℕ) where
  pub grouped_back : (z : ℕ) → moved_grouped host others all from leading following lead follow
      (moved_grouped host all others to leading following lead follow z) ≡ z
  grouped_back z =
      let own = leading + total_of (map lead all) + following in
      let other_own = leading + total_of (map lead others) + following in
      let same = bound_same host re leading following lead follow in
      let inner = moved host all others to leading lead in
      let outer = moved host all others to own follow in
      let total = total_same (reordering_map lead re) in
      let first = moved_first leading (reordering_back (reordering_map lead re)) own (omega (arith, total)) outer
      (λ y less. to_host own (reordering_map follow re) y less) (λ y far. moved_far own (reordering_map follow re) y far) (inner z) in
      ap (moved host others all from other_own follow)
      (first ∙ ap outer (number_back leading (reordering_map lead re) z))
      ∙ (ap (λ y. moved host others all from y follow (outer z)) (sym same)
      ∙ number_back own (reordering_map follow re) z)
