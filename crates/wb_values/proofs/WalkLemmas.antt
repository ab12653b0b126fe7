-- A walk over the children of a node, from the last one on.
use Rattle.std.proofs.Common.{◌≡◌, ◌⊎◌, ℕ, zero, suc, ◌+◌, ◌-◌, ◌/◌, ◌%◌, ◌^◌, ◌<◌, ◌≤◌, List, [], ◌∷◌, ◌++◌, Some, length, take, drop}
use Rattle.std.proofs.Common.{refl, sym, subst, inl, inr, ap, ◌∙◌, arith, length-append, count_ones, pow-suc}
use Rattle.std.specs.Prelude.{slice_get}
use Rattle.std.proofs.lemmas.Nat.{ones_le_self}
use Rattle.std.proofs.lemmas.List.{take-append-drop, get_or-take, get_or_default, length-take-le}
use lib.Count.{ones_step}
use Rattle.wb_values.specs.declared.value.Value.{Value}
use Rattle.wb_values.specs.declared.value.Value.TheVariants.{Tree as Stored}
use Rattle.wb_values.specs.declared.node.Node.{Node}
use Rattle.wb_values.specs.InPlace.{no_node, node_at, size_at, children_back, LieInPlace, AreSized}
use Rattle.wb_values.specs.Inner.Begin.{begin}
use Rattle.wb_values.specs.Inner.Layouts.{backwards, IsWalk}
use Rattle.wb_values.proofs.InPlaceLemmas.{back_other, back_inner, back_none, lies_other, lies_inner}
use Rattle.wb_values.proofs.Laid.{sized-at}

-- a digit is 0 or 1
digit : (n : ℕ) → (n % 2 ≡ 0) ⊎ (n % 2 ≡ 1)
digit n = below (n % 2) (omega arith)
  where
    below : (m : ℕ) → m < 2 → (m ≡ 0) ⊎ (m ≡ 1)
    below zero lt = inl refl
    below (suc zero) lt = inr refl
    below (suc (suc m)) lt = absurd (omega (arith, lt))

-- a number that isn't 0 has a digit
pub has_digit : (count digits : ℕ) → digits < 2 ^ count → 1 ≤ digits → (k : ℕ) × (count ≡ suc k)
has_digit zero digits few some = absurd (omega (arith, few, some))
has_digit (suc k) digits few some = (k, refl)

-- and half of it has one less
pub half_below : (k digits : ℕ) → digits < 2 ^ suc k → digits / 2 < 2 ^ k
half_below k digits few = let e = pow-suc 2 k in omega (arith, few, e)

-- how many children a node has
pub length_back : (count : ℕ) (nodes : List Node) (digits top : ℕ) (others : List Value) → digits < 2 ^ count
    → length (children_back count nodes digits top others) ≡ count_ones digits + length others
length_back zero nodes digits top others few =
    let none : digits ≡ 0 = omega (arith, few) in
    let ones : count_ones digits ≡ 0 = ap count_ones none ∙ omega (arith, ones_le_self 0) in
    ap (λ (n : ℕ). length (children_back 0 nodes n top others)) none ∙ ap length (back_none 0 nodes top others) ∙ omega (arith, ones)
length_back (suc k) nodes digits top others few =
    cases (λ under os. length_back k nodes (digits / 2) under os (half_below k digits few)) (digit digits)
  where
    cases : ((under : ℕ) (os : List Value) → length (children_back k nodes (digits / 2) under os) ≡ count_ones (digits / 2) + length os)
        → (digits % 2 ≡ 0) ⊎ (digits % 2 ≡ 1)
        → length (children_back (suc k) nodes digits top others) ≡ count_ones digits + length others
    cases rest_of (inl even) =
        let rest = rest_of top (drop 1 others) in
        let split : length (take 1 others) + length (drop 1 others) ≡ length others =
        sym (length-append (take 1 others) (drop 1 others)) ∙ ap length (take-append-drop 1 others) in
        ap length (back_other k nodes digits top others even)
        ∙ length-append (take 1 others) (children_back k nodes (digits / 2) top (drop 1 others))
        ∙ omega (arith, rest, split, ones_step digits, even)
    cases rest_of (inr odd) =
        let rest = rest_of (top - size_at nodes (top - 1)) others in
        ap length (back_inner k nodes digits top others odd) ∙ omega (arith, rest, ones_step digits, odd)

-- the others from a place on
abbrev pub others_from : ℕ → ℕ → List Value → List Value
others_from at end values = take (end - at) (drop at values)

-- the first of them
pub others_more : (at end : ℕ) (values : List Value) → at < end → end ≤ length values
    → (v : Value) × (others_from at end values ≡ v ∷ others_from (at + 1) end values) × (slice_get values at ≡ Some v)
others_more at zero values lt le = absurd (omega (arith, lt))
others_more zero (suc end) [] lt le = absurd (omega (arith, le))
others_more zero (suc end) (v ∷ vs) lt le =
    let e : suc end - zero ≡ suc end = omega arith in
    let f : suc end - (zero + 1) ≡ end = omega arith in
    (v, ap (λ (n : ℕ). take n (v ∷ vs)) e ∙ sym (ap (λ (n : ℕ). v ∷ take n vs) f), refl)
others_more (suc at) (suc end) [] lt le = absurd (omega (arith, lt, le))
others_more (suc at) (suc end) (v ∷ vs) lt le =
    let (u, split, there) = others_more at end vs (omega (arith, lt)) (omega (arith, le)) in
    let e : suc end - suc at ≡ end - at = omega arith in
    let f : suc end - (suc at + 1) ≡ end - (at + 1) = omega arith in
    let g : drop (suc at + 1) (v ∷ vs) ≡ drop (at + 1) vs = ap (λ (n : ℕ). drop n (v ∷ vs)) (plus_one at) in (
      u,
      ap (λ (n : ℕ). take n (drop at vs)) e ∙ split ∙ sym (ap (λ (n : ℕ). u ∷ take n (drop (suc at + 1) (v ∷ vs))) f
          ∙ ap (λ (xs : List Value). u ∷ take (end - (at + 1)) xs) g),
      there,
    )
  where
    plus_one : (n : ℕ) → suc n + 1 ≡ suc (n + 1)
    plus_one n = omega arith

-- one of them is one of all values
others_at : (at count i : ℕ) (values : List Value) (v : Value) → slice_get (take count (drop at values)) i ≡ Some v
    → slice_get values (at + i) ≡ Some v
others_at zero zero i values v h = cc
others_at zero (suc count) i [] v h = cc
others_at zero (suc count) zero (x ∷ xs) v h = h
others_at zero (suc count) (suc i) (x ∷ xs) v h =
    ap (λ (n : ℕ). slice_get (x ∷ xs) n) (moved i) ∙ others_at zero count i xs v h
  where
    moved : (n : ℕ) → zero + suc n ≡ suc (zero + n)
    moved n = omega arith
others_at (suc at) zero i values v h = cc
others_at (suc at) (suc count) i [] v h = cc
others_at (suc at) count i (x ∷ xs) v h = ap (λ (n : ℕ). slice_get (x ∷ xs) n) (moved at i) ∙ others_at at count i xs v h
  where
    moved : (m n : ℕ) → suc m + n ≡ suc (m + n)
    moved m n = omega arith

module _ (nodes : List Node) (tree after : ℕ) where
  -- the walk begins after the last child
  pub walk_begins : AreSized [] nodes → tree < length nodes
      → after < count_ones (node_at nodes tree).inner + ((node_at nodes tree).end - begin 0 nodes tree)
      → IsWalk nodes tree after (node_at nodes tree).inner tree (begin 0 nodes tree) after
  walk_begins sized within inside =
      let s = sized-at [] nodes tree (node_at nodes tree) sized within
      (sym (get_or_default nodes tree no_node (node_at nodes tree) within)) in
      let len : length (take tree nodes) ≡ tree = length-take-le tree nodes (omega (arith, within)) in
      record {
        count = 32;
        few = s.digits;
        below = omega arith;
        first = s.first;
        lies = subst (λ (n : ℕ). LieInPlace 32 (take tree nodes) (node_at nodes tree).inner n s.first) len s.in_place;
        inside = inside;
        reaches = λ values child le there. there;
      }

  module _ (digits top at left : ℕ) (some : 1 ≤ digits) (w : IsWalk nodes tree after digits top at left) where
    module _ (odd : digits % 2 ≡ 1) where
      -- a tree in place is next: where it ends, and its size
      pub walk_top : (1 ≤ top) × (size_at (take tree nodes) (top - 1) ≡ size_at nodes (top - 1)) × (size_at nodes (top - 1) ≤ top)
      walk_top =
          let (k, count) = has_digit w.count digits w.few some in
          let lies = (lies_inner k (take tree nodes) digits top w.first odd).0
          (subst (λ (n : ℕ). LieInPlace n (take tree nodes) digits top w.first) count w.lies) in
          let same : size_at (take tree nodes) (top - 1) ≡ size_at nodes (top - 1) =
          ap (λ (n : Node). n.size) (get_or-take tree nodes (top - 1) no_node (omega (arith, lies.0, w.below))) in
          (lies.0, same, omega (arith, lies.1, same))

      -- the wanted child is that tree
      pub walk_tree : left ≡ 0 → (values : List Value) (child : Value) → (node_at nodes tree).end ≤ length values
          → slice_get (backwards nodes values tree (node_at nodes tree)) after ≡ Some child → child ≡ Stored (record { 0 = top - 1 })
      walk_tree here values child le there =
          let (k, count) = has_digit w.count digits w.few some in
          let os = others_from at (node_at nodes tree).end values in
          let found = sym (w.reaches values child le there)
          ∙ ap (λ (n : ℕ). slice_get (children_back w.count (take tree nodes) digits top os) n) here
          ∙ ap (λ (n : ℕ). slice_get (children_back n (take tree nodes) digits top os) 0) count
          ∙ ap (λ (xs : List Value). slice_get xs 0) (back_inner k (take tree nodes) digits top os odd) in
          some_same child (Stored (record { 0 = top - 1 })) found
        where
          some_same : (x y : Value) → Some x ≡ Some y → x ≡ y
          some_same x y e = cc

      -- the walk goes on before that tree
      pub walk_inner : 1 ≤ left → IsWalk nodes tree after (digits / 2) (top - size_at nodes (top - 1)) at (left - 1)
      walk_inner more =
          let (k, count) = has_digit w.count digits w.few some in
          let before = take tree nodes in
          let lies = (lies_inner k before digits top w.first odd).0
          (subst (λ (n : ℕ). LieInPlace n before digits top w.first) count w.lies) in
          let next : top - size_at before (top - 1) ≡ top - size_at nodes (top - 1) = ap (λ (n : ℕ). top - n) walk_top.1 in
          let rest : left ≡ suc (left - 1) = omega (arith, more) in
          record {
            count = k;
            few = half_below k digits (subst (λ (n : ℕ). digits < 2 ^ n) count w.few);
            below = omega (arith, w.below);
            first = w.first;
            lies = subst (λ (n : ℕ). LieInPlace k before (digits / 2) n w.first) next lies.2;
            inside = omega (arith, w.inside, ones_step digits, odd, more);
            reaches = λ values child le there.
                (let os = others_from at (node_at nodes tree).end values in
                sym (ap (λ (n : ℕ). slice_get (children_back w.count before digits top os) n) rest
                ∙ ap (λ (n : ℕ). slice_get (children_back n before digits top os) (suc (left - 1))) count
                ∙ ap (λ (xs : List Value). slice_get xs (suc (left - 1))) (back_inner k before digits top os odd)
                ∙ ap (λ (n : ℕ). slice_get (children_back k before (digits / 2) n os) (left - 1)) next)
                ∙ w.reaches values child le there);
          }

    module _ (even : digits % 2 ≡ 0) where
      -- the wanted child is the next of the others
      pub walk_cell : at < (node_at nodes tree).end → left ≡ 0 → (values : List Value) (child : Value)
          → (node_at nodes tree).end ≤ length values
          → slice_get (backwards nodes values tree (node_at nodes tree)) after ≡ Some child → slice_get values at ≡ Some child
      walk_cell more here values child le there =
          let (k, count) = has_digit w.count digits w.few some in
          let end = (node_at nodes tree).end in
          let os = others_from at end values in
          let (v, split, at_v) = others_more at end values more le in
          let found = sym (w.reaches values child le there)
          ∙ ap (λ (n : ℕ). slice_get (children_back w.count (take tree nodes) digits top os) n) here
          ∙ ap (λ (n : ℕ). slice_get (children_back n (take tree nodes) digits top os) 0) count
          ∙ ap (λ (xs : List Value). slice_get xs 0) (back_other k (take tree nodes) digits top os even)
          ∙ ap (λ (xs : List Value). slice_get (take 1 xs ++ children_back k (take tree nodes) (digits / 2) top (drop 1 xs)) 0) split in
          at_v ∙ sym found

      -- the walk goes on before that child
      pub walk_other : at < (node_at nodes tree).end → 1 ≤ left → IsWalk nodes tree after (digits / 2) top (at + 1) (left - 1)
      walk_other more some_left =
          let (k, count) = has_digit w.count digits w.few some in
          let before = take tree nodes in
          let end = (node_at nodes tree).end in
          let rest : left ≡ suc (left - 1) = omega (arith, some_left) in
          record {
            count = k;
            few = half_below k digits (subst (λ (n : ℕ). digits < 2 ^ n) count w.few);
            below = w.below;
            first = w.first;
            lies = (lies_other k before digits top w.first even).0
                (subst (λ (n : ℕ). LieInPlace n before digits top w.first) count w.lies);
            inside = omega (arith, w.inside, ones_step digits, even, more, some_left);
            reaches = λ values child le there.
                (let os = others_from at end values in
                let (v, split, at_v) = others_more at end values more le in
                sym (ap (λ (n : ℕ). slice_get (children_back w.count before digits top os) n) rest
                ∙ ap (λ (n : ℕ). slice_get (children_back n before digits top os) (suc (left - 1))) count
                ∙ ap (λ (xs : List Value). slice_get xs (suc (left - 1))) (back_other k before digits top os even)
                ∙ ap (λ (xs : List Value). slice_get (take 1 xs ++ children_back k before (digits / 2) top (drop 1 xs)) (suc (left - 1)))
                split) ∙ w.reaches values child le there);
          }

      -- a digit stands for none where there are no others
      pub walk_past : (node_at nodes tree).end ≤ at → IsWalk nodes tree after (digits / 2) top at left
      walk_past none =
          let (k, count) = has_digit w.count digits w.few some in
          let before = take tree nodes in
          let end = (node_at nodes tree).end in
          let nothing : end - at ≡ 0 = omega (arith, none) in
          record {
            count = k;
            few = half_below k digits (subst (λ (n : ℕ). digits < 2 ^ n) count w.few);
            below = w.below;
            first = w.first;
            lies = (lies_other k before digits top w.first even).0
                (subst (λ (n : ℕ). LieInPlace n before digits top w.first) count w.lies);
            inside = omega (arith, w.inside, ones_step digits, even, none);
            reaches = λ values child le there.
                (let os = others_from at end values in
                let empty : os ≡ [] = ap (λ (n : ℕ). take n (drop at values)) nothing in
                sym (ap (λ (n : ℕ). slice_get (children_back n before digits top os) left) count
                ∙ ap (λ (xs : List Value). slice_get xs left) (back_other k before digits top os even)
                ∙ ap (λ (xs : List Value). slice_get (take 1 xs ++ children_back k before (digits / 2) top (drop 1 xs)) left) empty
                ∙ ap (λ (xs : List Value). slice_get (children_back k before (digits / 2) top xs) left) (sym empty))
                ∙ w.reaches values child le there);
          }

  -- with no digit left the wanted child is one of the others
  pub walk_ends : (digits top at left : ℕ) → digits ≡ 0 → IsWalk nodes tree after digits top at left → (values : List Value) (child : Value)
      → (node_at nodes tree).end ≤ length values → slice_get (backwards nodes values tree (node_at nodes tree)) after ≡ Some child
      → slice_get values (at + left) ≡ Some child
  walk_ends digits top at left none w values child le there =
      let os = others_from at (node_at nodes tree).end values in
      others_at at ((node_at nodes tree).end - at) left values child
      (sym (ap (λ (n : ℕ). slice_get (children_back w.count (take tree nodes) n top os) left) none
      ∙ ap (λ (xs : List Value). slice_get xs left) (back_none w.count (take tree nodes) top os)) ∙ w.reaches values child le there)
