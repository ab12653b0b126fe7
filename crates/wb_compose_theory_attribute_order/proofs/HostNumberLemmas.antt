-- The number that the host alone has for a production: in a union, and in the other order.
use Rattle.std.proofs.Common.{◌≡◌, ◌<◌, ◌≤◌, ◌+◌, ◌-◌, ◌∙◌, ℕ, List, Some, None, cond, length, map, slice_get, refl, sym, ap, inl, inr}
use Rattle.std.proofs.Common.{arith}
use Rattle.std.proofs.lemmas.Bool.{cases_lt, le-ltb, lt-ltb}
use Rattle.wb_compose_theory_order.proofs.NumberLemmas.{reordering_map, to_extension, to_host}
use Rattle.wb_compose_theory_order.specs.Orders.{IsReordering}
use Rattle.wb_compose_theory_grammar.proofs.FactLemmas.{at_map}
use Rattle.wb_compose_theory_grammar.proofs.PlaceLemmas.{Located, after_all, in_extension, in_host, located, place_extension, place_host}
use Rattle.wb_compose_theory_grammar.proofs.PlaceLemmas.{place_past, within_total}
use Rattle.wb_compose_theory_grammar.specs.Places.{count_before, total_of}
use Rattle.wb_compose_theory_lists.specs.Additions.{Addition, Rows}
use Rattle.wb_compose_theory_lists.specs.Joined.{Block, place_after}
use Rattle.wb_compose_theory_lists.specs.Numbers.{block_of, number_without, numbers_of}
use Rattle.wb_compose_theory_lists.proofs.NumberLemmas.{IsMember, fits_of, without_below, without_follow, without_own, without_past}
use Rattle.wb_compose_theory_lists.proofs.PlacedLemmas.{after_below, after_middle, after_past, size_within}
use Rattle.wb_compose_theory_attribute_order.specs.Orders.{host_number, host_number_at, moved, reordered_numbers}
use Rattle.wb_compose_theory_attribute_order.proofs.MovedLemmas.{after_far, moved_far, moved_past}
use Rattle.wb_compose_theory_attribute_order.proofs.TotalLemmas.{total_same}

-- how many productions of an extension lead, and how many follow
abbrev pub leads_in : Addition → ℕ
leads_in x = length x.rows.productions

abbrev pub follows_in : Addition → ℕ
follows_in x = length x.rows.abstract_productions

module _ (host : Rows) (all : List Addition) where
  abbrev lead : ℕ
  lead = length host.productions

  abbrev follow : ℕ
  follow = length host.abstract_productions

  abbrev sizes : List ℕ
  sizes = map leads_in all

  pub number_of_host : (p : ℕ) → p < lead → host_number host all p ≡ Some p
  number_of_host p less = ap (host_number_at lead follow) (place_host lead sizes p less)

  pub number_of_own : (p k size i : ℕ) → slice_get sizes k ≡ Some size → i < size → p ≡ lead + (count_before sizes k + i)
      → host_number host all p ≡ None
  number_of_own p k size i at less is = ap (host_number_at lead follow) (place_extension lead sizes k size i p at less is)

  pub number_of_following : (p j : ℕ) → p ≡ lead + (total_of sizes + j) → j < follow → host_number host all p ≡ Some (lead + j)
  number_of_following p j is less =
      ap (host_number_at lead follow) (place_past lead sizes j p is) ∙ ap (λ c. cond c (Some (lead + j)) None) (lt-ltb j follow less)

  pub number_past : (p : ℕ) → lead + total_of sizes + follow ≤ p → host_number host all p ≡ None
  number_past p far =
      let j : ℕ = p - (lead + total_of sizes) in
      ap (host_number_at lead follow) (place_past lead sizes (p - (lead + total_of sizes)) p (omega (arith, far)))
      ∙ ap (λ c. cond c (Some (lead + (p - (lead + total_of sizes)))) None)
      (le-ltb (p - (lead + total_of sizes)) follow (omega (arith, far)))

  -- of a number of the host with an extension
  module _ (k : ℕ) (x : Addition) (member : IsMember all k x) where
    abbrev b : Block
    b = block_of host all leads_in k x

    abbrev c : Block
    c = block_of host all follows_in k x

    abbrev bound : ℕ
    bound = lead + total_of sizes + follow

    abbrev IsKept : ℕ → Type 0
    IsKept p = host_number host all ((numbers_of host all k x).production p) ≡ number_without host x p

    moves_to : (p z w : ℕ) → place_after lead b p ≡ z → place_after bound c z ≡ w → (numbers_of host all k x).production p ≡ w
    moves_to p z w first second = ap (place_after bound c) first ∙ second

    in_own : IsMember all k x → (p : ℕ) → lead ≤ p → p < lead + leads_in x → IsKept p
    in_own (inl none) p far less = let size : leads_in x ≡ 0 = ap leads_in none in absurd (omega (arith, size, far, less))
    in_own (inr at) p far less =
        let fits = within_total sizes k (leads_in x) (at_map leads_in all k x at) in
        let before = count_before sizes k in
        let z : ℕ = p + count_before sizes k in
        ap (host_number host all) (moves_to p (p + count_before sizes k) (p + count_before sizes k)
        (after_middle lead b p (p + count_before sizes k) far less refl)
        (after_below bound c (p + count_before sizes k) (omega (arith, fits, far, less))))
        ∙ (number_of_own (p + count_before sizes k) k (leads_in x) (p - lead) (at_map leads_in all k x at) (omega (arith, far, less))
        (omega (arith, far)) ∙ sym (without_own host x p far less))

    in_following : (p : ℕ) → lead + leads_in x ≤ p → p < lead + leads_in x + follow → IsKept p
    in_following p far less =
        let small = size_within b (fits_of host all k x member leads_in refl) in
        let z : ℕ = p + (total_of sizes - leads_in x) in
        ap (host_number host all) (moves_to p (p + (total_of sizes - leads_in x)) (p + (total_of sizes - leads_in x))
        (after_past lead b p (p + (total_of sizes - leads_in x)) far refl)
        (after_below bound c (p + (total_of sizes - leads_in x)) (omega (arith, small, far, less))))
        ∙ (number_of_following (p + (total_of sizes - leads_in x)) (p - (lead + leads_in x)) (omega (arith, small, far))
        (omega (arith, far, less))
        ∙ sym (without_follow host x p (lead + (p - (lead + leads_in x))) far less (omega (arith, far))))

    in_past : (p : ℕ) → lead + leads_in x + follow ≤ p → IsKept p
    in_past p far =
        let small = size_within b (fits_of host all k x member leads_in refl) in
        let over : lead + leads_in x ≤ p = omega (arith, far) in
        let first = after_past lead b p (p + (total_of sizes - leads_in x)) over refl in
        let beyond = after_far bound c (p + (total_of sizes - leads_in x)) (omega (arith, small, far)) in
        ap (host_number host all) (ap (place_after bound c) first)
        ∙ (number_past (place_after bound c (p + (total_of sizes - leads_in x))) beyond ∙ sym (without_past host x p far))

    pub host_number_kept : (p : ℕ) → IsKept p
    host_number_kept p = elim (cases_lt p lead) [
      | inl less ↦
          ap (host_number host all) (moves_to p p p (after_below lead b p less) (after_below bound c p (omega (arith, less))))
          ∙ (number_of_host p less ∙ sym (without_below host x p less))
      | inr far ↦ elim (cases_lt p (lead + leads_in x)) [
        | inl less ↦ in_own member p far less
        | inr over ↦ elim (cases_lt p (lead + leads_in x + follow)) [
          | inl less ↦ in_following p over less
          | inr past ↦ in_past p past
        ]
      ]
    ]

module _ (host : Rows) {all others : List Addition} {to from : ℕ → ℕ} (re : IsReordering to from all others) where
  -- of a number that moves to the other order
  pub host_number_same : (p : ℕ) → host_number host others ((reordered_numbers host all others to).production p) ≡ host_number host all p
  host_number_same p = go (located (length host.productions) (map leads_in all) p) where
    lead : ℕ
    lead = length host.productions

    follow : ℕ
    follow = length host.abstract_productions

    go : Located (length host.productions) (map leads_in all) p
        → host_number host others ((reordered_numbers host all others to).production p) ≡ host_number host all p
    go (in_host below) =
        let own = length host.productions + total_of (map leads_in all) + length host.abstract_productions in
        ap (host_number host others)
        (ap (moved host all others to own follows_in) (to_host (length host.productions) (reordering_map leads_in re) p below)
        ∙ to_host own (reordering_map follows_in re) p (omega (arith, below)))
        ∙ (number_of_host host others p below ∙ sym (number_of_host host all p below))
    go (in_extension k size i at within is) =
        let own = length host.productions + total_of (map leads_in all) + length host.abstract_productions in
        let re' = reordering_map leads_in re in
        let w = length host.productions + (count_before (map leads_in others) (to k) + i) in
        let fits = within_total (map leads_in others) (to k) size (re'.there k size at) in
        let total = total_same re' in
        ap (host_number host others)
        (ap (moved host all others to own follows_in) (to_extension (length host.productions) re' k size i p at within is)
        ∙ to_host own (reordering_map follows_in re) w (omega (arith, fits, total, within)))
        ∙ (number_of_own host others w (to k) size i (re'.there k size at) within refl
        ∙ sym (number_of_own host all p k size i at within is))
    go (after_all j is) =
        let own = length host.productions + total_of (map leads_in all) + length host.abstract_productions in
        let re' = reordering_map leads_in re in
        let total = total_same re' in
        let stays = moved_past (length host.productions) re' p (omega (arith, is)) in
        elim (cases_lt j (length host.abstract_productions)) [
          | inl less ↦
              ap (host_number host others)
              (ap (moved host all others to own follows_in) stays
              ∙ to_host own (reordering_map follows_in re) p (omega (arith, is, less)))
              ∙ (number_of_following host others p j (omega (arith, is, total)) less ∙ sym (number_of_following host all p j is less))
          | inr far ↦
              let beyond = moved_far own (reordering_map follows_in re) p (omega (arith, is, far)) in
              ap (host_number host others) (ap (moved host all others to own follows_in) stays)
              ∙ (number_past host others (moved host all others to own follows_in p) (omega (arith, beyond, total))
              ∙ sym (number_past host all p (omega (arith, is, far))))
        ]
