-- A walk over the children of a node that lists them, from the last one on.
use Rattle.std.proofs.Common.{◌≡◌, ℕ, ◌+◌, ◌-◌, ◌/◌, ◌%◌, ◌^◌, ◌<◌, ◌≤◌, List, [], ◌∷◌, ◌++◌, length, take, drop}
use Rattle.std.proofs.Common.{refl, sym, subst, ap, ◌∙◌, arith, append_assoc, append-nil, length-append}
use Rattle.std.proofs.lemmas.List.{get_or-take, get_or_default, length-take-le, take_at}
use Rattle.wb_values.specs.declared.value.Value.{Value}
use Rattle.wb_values.specs.declared.value.Value.TheVariants.{Tree as Stored}
use Rattle.wb_values.specs.declared.node.Node.{Node}
use Rattle.wb_values.specs.InPlace.{no_node, node_at, size_at, children_back, LieInPlace, AreSized}
use Rattle.wb_values.specs.Inner.Begin.{begin}
use Rattle.wb_values.specs.Inner.Layouts.{backwards, IsListing}
use Rattle.wb_values.proofs.InPlaceLemmas.{back_other, back_inner, back_none, lies_other, lies_inner}
use Rattle.wb_values.proofs.Laid.{sized-at}
use Rattle.wb_values.proofs.CallerLemmas.{one_at}
use Rattle.wb_values.proofs.WalkLemmas.{has_digit, half_below, others_from, others_more}

module _ (nodes : List Node) (values : List Value) (tree : ℕ) (start : List Value) where
  -- nothing is listed yet
  pub listing_begins : AreSized [] nodes → tree < length nodes
      → IsListing nodes values tree (node_at nodes tree).inner tree (begin 0 nodes tree) start start
  listing_begins sized within =
      let s = sized-at [] nodes tree (node_at nodes tree) sized within
      (sym (get_or_default nodes tree no_node (node_at nodes tree) within)) in
      let len : length (take tree nodes) ≡ tree = length-take-le tree nodes (omega (arith, within)) in
      record {
        count = 32;
        few = s.digits;
        below = omega arith;
        first = s.first;
        lies = subst (λ (n : ℕ). LieInPlace 32 (take tree nodes) (node_at nodes tree).inner n s.first) len s.in_place;
        done = [];
        listed_are = sym (append-nil start);
        stands = refl;
      }

  module _ (digits top at : ℕ) (listed : List Value) (l : IsListing nodes values tree digits top at start listed) where
    -- the others come first
    pub listing_starts : take (length start) listed ≡ start
    listing_starts = ap (λ (xs : List Value). take (length start) xs) l.listed_are ∙ take_at start l.done (length start) refl

    pub listing_longer : length start ≤ length listed
    listing_longer = omega (arith, ap length l.listed_are, length-append start l.done)

    module _ (some : 1 ≤ digits) where
      module _ (odd : digits % 2 ≡ 1) where
        -- a tree in place is next: where it ends, and its size
        pub listing_top : (1 ≤ top) × (size_at (take tree nodes) (top - 1) ≡ size_at nodes (top - 1)) × (size_at nodes (top - 1) ≤ top)
        listing_top =
            let (k, count) = has_digit l.count digits l.few some in
            let lies = (lies_inner k (take tree nodes) digits top l.first odd).0
            (subst (λ (n : ℕ). LieInPlace n (take tree nodes) digits top l.first) count l.lies) in
            let same : size_at (take tree nodes) (top - 1) ≡ size_at nodes (top - 1) =
            ap (λ (n : Node). n.size) (get_or-take tree nodes (top - 1) no_node (omega (arith, lies.0, l.below))) in
            (lies.0, same, omega (arith, lies.1, same))

        -- and is listed
        pub listing_inner : IsListing nodes values tree (digits / 2) (top - size_at nodes (top - 1)) at start
            (listed ++ Stored (record { 0 = top - 1 }) ∷ [])
        listing_inner =
            let (k, count) = has_digit l.count digits l.few some in
            let before = take tree nodes in
            let os = others_from at (node_at nodes tree).end values in
            let x : List Value = Stored (record { 0 = top - 1 }) ∷ [] in
            let lies = (lies_inner k before digits top l.first odd).0
            (subst (λ (n : ℕ). LieInPlace n before digits top l.first) count l.lies) in
            let next : top - size_at before (top - 1) ≡ top - size_at nodes (top - 1) = ap (λ (n : ℕ). top - n) listing_top.1 in
            record {
              count = k;
              few = half_below k digits (subst (λ (n : ℕ). digits < 2 ^ n) count l.few);
              below = omega (arith, l.below);
              first = l.first;
              lies = subst (λ (n : ℕ). LieInPlace k before (digits / 2) n l.first) next lies.2;
              done = l.done ++ x;
              listed_are = ap (λ (xs : List Value). xs ++ x) l.listed_are ∙ append_assoc start l.done x;
              stands = append_assoc l.done x (children_back k before (digits / 2) (top - size_at nodes (top - 1)) os)
                  ∙ sym (ap (λ (xs : List Value). l.done ++ xs) (ap (λ (n : ℕ). children_back n before digits top os) count
                  ∙ back_inner k before digits top os odd
                  ∙ ap (λ (n : ℕ). Stored (record { 0 = top - 1 }) ∷ children_back k before (digits / 2) n os) next))
                  ∙ l.stands;
            }

      module _ (even : digits % 2 ≡ 0) where
        -- one of the others is next, and is listed
        pub listing_other : at < (node_at nodes tree).end → (node_at nodes tree).end ≤ length values
            → IsListing nodes values tree (digits / 2) top (at + 1) start (listed ++ take 1 (drop at values))
        listing_other more le =
            let (k, count) = has_digit l.count digits l.few some in
            let before = take tree nodes in
            let end = (node_at nodes tree).end in
            let os = others_from at end values in
            let rest = others_from (at + 1) end values in
            let (v, split, at_v) = others_more at end values more le in
            let x = take 1 (drop at values) in
            let one : x ≡ v ∷ [] = one_at values at v at_v in
            record {
              count = k;
              few = half_below k digits (subst (λ (n : ℕ). digits < 2 ^ n) count l.few);
              below = l.below;
              first = l.first;
              lies = (lies_other k before digits top l.first even).0
                  (subst (λ (n : ℕ). LieInPlace n before digits top l.first) count l.lies);
              done = l.done ++ x;
              listed_are = ap (λ (xs : List Value). xs ++ x) l.listed_are ∙ append_assoc start l.done x;
              stands = append_assoc l.done x (children_back k before (digits / 2) top rest)
                  ∙ ap (λ (xs : List Value). l.done ++ (xs ++ children_back k before (digits / 2) top rest)) one
                  ∙ sym (ap (λ (xs : List Value). l.done ++ xs) (ap (λ (n : ℕ). children_back n before digits top os) count
                  ∙ back_other k before digits top os even
                  ∙ ap (λ (xs : List Value). take 1 xs ++ children_back k before (digits / 2) top (drop 1 xs)) split))
                  ∙ l.stands;
            }

        -- a digit stands for none where there are no others
        pub listing_past : (node_at nodes tree).end ≤ at → IsListing nodes values tree (digits / 2) top at start listed
        listing_past none =
            let (k, count) = has_digit l.count digits l.few some in
            let before = take tree nodes in
            let end = (node_at nodes tree).end in
            let os = others_from at end values in
            let nothing : end - at ≡ 0 = omega (arith, none) in
            let empty : os ≡ [] = ap (λ (n : ℕ). take n (drop at values)) nothing in
            record {
              count = k;
              few = half_below k digits (subst (λ (n : ℕ). digits < 2 ^ n) count l.few);
              below = l.below;
              first = l.first;
              lies = (lies_other k before digits top l.first even).0
                  (subst (λ (n : ℕ). LieInPlace n before digits top l.first) count l.lies);
              done = l.done;
              listed_are = l.listed_are;
              stands = sym (ap (λ (xs : List Value). l.done ++ xs) (ap (λ (n : ℕ). children_back n before digits top os) count
                  ∙ back_other k before digits top os even
                  ∙ ap (λ (xs : List Value). take 1 xs ++ children_back k before (digits / 2) top (drop 1 xs)) empty
                  ∙ ap (λ (xs : List Value). children_back k before (digits / 2) top xs) (sym empty)))
                  ∙ l.stands;
            }

    -- with no digit left only others are
    module _ (none : digits ≡ 0) where
      only : (os : List Value) → children_back l.count (take tree nodes) digits top os ≡ os
      only os = ap (λ (n : ℕ). children_back l.count (take tree nodes) n top os) none ∙ back_none l.count (take tree nodes) top os

      -- the next of which is listed
      pub listing_rest : at < (node_at nodes tree).end → (node_at nodes tree).end ≤ length values
          → IsListing nodes values tree digits top (at + 1) start (listed ++ take 1 (drop at values))
      listing_rest more le =
          let end = (node_at nodes tree).end in
          let rest = others_from (at + 1) end values in
          let (v, split, at_v) = others_more at end values more le in
          let x = take 1 (drop at values) in
          let one : x ≡ v ∷ [] = one_at values at v at_v in
          record {
            count = l.count;
            few = l.few;
            below = l.below;
            first = l.first;
            lies = l.lies;
            done = l.done ++ x;
            listed_are = ap (λ (xs : List Value). xs ++ x) l.listed_are ∙ append_assoc start l.done x;
            stands = ap (λ (xs : List Value). (l.done ++ x) ++ xs) (only rest) ∙ append_assoc l.done x rest
                ∙ ap (λ (xs : List Value). l.done ++ (xs ++ rest)) one
                ∙ ap (λ (xs : List Value). l.done ++ xs) (sym split)
                ∙ sym (ap (λ (xs : List Value). l.done ++ xs) (only (others_from at end values)))
                ∙ l.stands;
          }

      -- and then all children are
      pub listing_ends : (node_at nodes tree).end ≤ at → listed ≡ start ++ backwards nodes values tree (node_at nodes tree)
      listing_ends past =
          let end = (node_at nodes tree).end in
          let os = others_from at end values in
          let nothing : end - at ≡ 0 = omega (arith, past) in
          let empty : os ≡ [] = ap (λ (n : ℕ). take n (drop at values)) nothing in
          l.listed_are ∙ ap (λ (xs : List Value). start ++ xs) (sym (append-nil l.done)
          ∙ ap (λ (xs : List Value). l.done ++ xs) (sym (only os ∙ empty)) ∙ l.stands)
