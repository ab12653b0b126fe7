-- Nodes that are joined are those of all expressions.
use Rattle.std.proofs.Common.{◌≡◌, ℕ, zero, suc, ◌+◌, ◌≤◌, ◌<◌, List, [], ◌∷◌, ◌++◌, refl, sym, ◌∙◌, ap, subst, arith, Some, length, get_or}
use Rattle.std.proofs.Common.{add-one, map, length-append, length-take-le, take, ◌^◌, inl, inr}
use Rattle.std.specs.Prelude.{slice_get, option_map, sum_by}
use Rattle.std.proofs.lemmas.List.Sums.{sum_by-cons}
use Rattle.std.proofs.lemmas.Bool.{cases_lt}
use Rattle.std.proofs.lemmas.List.{get_or_append_left, get_or_push, length-map}
use Rattle.std.proofs.lemmas.Option.{slice_get-get_or, slice_get-map, same_Some}
use Rattle.wb_regex.specs.Tree.{Tree}
use Rattle.wb_regex.specs.Covers as w
use Rattle.wb_regex.specs.declared.node.RegexNode.{RegexNode}
use Rattle.wb_regex.specs.declared.node.RegexNode.TheVariants as n
use Rattle.wb_automata_positions.specs.Inner.Parts.{AreParts, PartsBelow}
use Rattle.wb_automata_positions.specs.Inner.Concatenated.{raised, AreConcatenated, AreAdded}
use Rattle.wb_automata_positions.specs.Sizes.{size_of}
use Rattle.wb_automata_positions.specs.Inner.Bounds.{bound_of}
use Rattle.wb_regex.specs.Filled.{Filled}
use Rattle.wb_regex.specs.Matches.{Matches}
use Rattle.wb_automata_positions.proofs.PartLemmas.{parts_more}
use Rattle.wb_lemmas.proofs.Places.{append_keeps, append_after}

-- a tree has as many nodes as its size says
pub covers_size : {nodes : List RegexNode} {s e : ℕ} {tree : Tree} → w.Covers nodes s e tree → e ≡ s + size_of tree
covers_size (w.set words at e) = omega arith
covers_size (w.sequence i j x y at e) = omega (arith, covers_size x, covers_size y)
covers_size (w.choice i j x y at e) = omega (arith, covers_size x, covers_size y)
covers_size (w.star i x at e) = omega (arith, covers_size x)
covers_size (w.plus i x at e) = omega (arith, covers_size x)
covers_size (w.maybe i x at e) = omega (arith, covers_size x)

same_node : (nodes : List RegexNode) (i j : ℕ) (a b : RegexNode) → slice_get nodes i ≡ Some a → slice_get nodes j ≡ Some b → i ≡ j → a ≡ b
same_node nodes i j a b p q h = same_Some a b (sym p ∙ ap (slice_get nodes) h ∙ q)

pub covers_below : {nodes : List RegexNode} {s e : ℕ} {tree : Tree} → w.Covers nodes s e tree → s < e
covers_below (w.set words at e) = omega arith
covers_below (w.sequence i j x y at e) = omega (arith, covers_below x, covers_below y)
covers_below (w.choice i j x y at e) = omega (arith, covers_below x, covers_below y)
covers_below (w.star i x at e) = omega (arith, covers_below x)
covers_below (w.plus i x at e) = omega (arith, covers_below x)
covers_below (w.maybe i x at e) = omega (arith, covers_below x)

-- each part of nodes comes before its whole
pub covers_parts : {nodes : List RegexNode} {s e : ℕ} {tree : Tree} (k : ℕ) (node : RegexNode) → w.Covers nodes s e tree → s ≤ k → k < e
    → slice_get nodes k ≡ Some node → PartsBelow k node
covers_parts {nodes} k node (w.set {s = s} words at e) ge lt is =
    subst (PartsBelow k) (same_node nodes s k (n.Set words) node at is (omega arith)) tt
covers_parts {nodes} k node (w.sequence i j x y at e) ge lt is = elim (cases_lt k (i + 1)) [
  | inl early ↦ covers_parts k node x ge early is
  | inr late ↦ elim (cases_lt k (j + 1)) [
    | inl less ↦ covers_parts k node y late less is
    | inr past ↦ (let b = covers_below y in subst (PartsBelow k) (same_node nodes (j + 1) k (n.Sequence i j) node at is (omega arith))
        (omega arith, omega arith))
  ]
]
covers_parts {nodes} k node (w.choice i j x y at e) ge lt is = elim (cases_lt k (i + 1)) [
  | inl early ↦ covers_parts k node x ge early is
  | inr late ↦ elim (cases_lt k (j + 1)) [
    | inl less ↦ covers_parts k node y late less is
    | inr past ↦ (let b = covers_below y in subst (PartsBelow k) (same_node nodes (j + 1) k (n.Choice i j) node at is (omega arith))
        (omega arith, omega arith))
  ]
]
covers_parts {nodes} k node (w.star i x at e) ge lt is = elim (cases_lt k (i + 1)) [
  | inl early ↦ covers_parts k node x ge early is
  | inr late ↦ subst (PartsBelow k) (same_node nodes (i + 1) k (n.Star i) node at is (omega arith)) (omega arith)
]
covers_parts {nodes} k node (w.plus i x at e) ge lt is = elim (cases_lt k (i + 1)) [
  | inl early ↦ covers_parts k node x ge early is
  | inr late ↦ subst (PartsBelow k) (same_node nodes (i + 1) k (n.Plus i) node at is (omega arith)) (omega arith)
]
covers_parts {nodes} k node (w.maybe i x at e) ge lt is = elim (cases_lt k (i + 1)) [
  | inl early ↦ covers_parts k node x ge early is
  | inr late ↦ subst (PartsBelow k) (same_node nodes (i + 1) k (n.Maybe i) node at is (omega arith)) (omega arith)
]

-- the bounds rise
pub bound_rises : (trees : List Tree) (k l : ℕ) → k ≤ l → bound_of trees k ≤ bound_of trees l
bound_rises [] k l le = omega arith
bound_rises (t ∷ ts) zero l le = omega arith
bound_rises (t ∷ ts) (suc k) zero le = absurd (omega arith)
bound_rises (t ∷ ts) (suc k) (suc l) le = omega (arith, bound_rises ts k l (omega arith))

pub bound_all : (trees : List Tree) (k : ℕ) → bound_of trees k ≤ bound_of trees (length trees)
bound_all [] k = omega arith
bound_all (t ∷ ts) zero = omega arith
bound_all (t ∷ ts) (suc k) = omega (arith, bound_all ts k)

pub bound_next : (trees : List Tree) (k : ℕ) (tree : Tree) → slice_get trees k ≡ Some tree → bound_of trees
    (suc k) ≡ bound_of trees k + size_of tree
bound_next [] k tree at = cc
bound_next (t ∷ ts) zero tree at = let e : t ≡ tree = same_Some t tree at in rw e (omega (arith, bound_none ts))
  where
    bound_none : (ts : List Tree) → bound_of ts 0 ≡ 0
    bound_none [] = refl
    bound_none (t ∷ ts) = refl
bound_next (t ∷ ts) (suc k) tree at = omega (arith, bound_next ts k tree at)

-- the nodes of one tree more
pub join_step : (trees : List Tree) (old new : List RegexNode) (roots : List ℕ) (i root : ℕ) (tree : Tree) → slice_get trees i ≡ Some tree
    → AreConcatenated trees old roots i → AreAdded old new tree root → AreConcatenated trees new (roots ++ root ∷ []) (i + 1)
join_step trees old new roots i root tree at h a = record {
  len = omega (arith, h.len, a.last, next, long, covers_size a.covers);
  roots_len = omega (arith, h.roots_len, length-append roots (root ∷ []));
  parts = λ k t lt here. elim (cases_lt k i) [
    | inl less ↦
        let p = h.parts k t less here in
        record {
          source = p.source;
          covers = p.covers;
          filled = p.filled;
          not_empty = p.not_empty;
          embeds = λ j node is. subst
              (λ z. slice_get z (bound_of trees k + j) ≡ Some (raised (bound_of trees k) node)) (sym a.joins)
              (append_keeps old (map (raised (length old)) a.source) (bound_of trees k + j) (raised (bound_of trees k) node)
              (p.embeds j node is));
        }
    | inr past ↦
        let e : i ≡ k = omega arith in
        let same : tree ≡ t = same_Some tree t (sym at ∙ ap (slice_get trees) e ∙ here) in
        let m : length old ≡ bound_of trees k = h.len ∙ ap (bound_of trees) e in
        record {
          source = a.source;
          covers = subst (w.Covers a.source 0 (length a.source)) same a.covers;
          filled = subst Filled same a.filled;
          not_empty = subst (λ z. ¬ Matches z []) same a.not_empty;
          embeds = λ j node is. subst (λ z. slice_get new (z + j) ≡ Some (raised z node)) m
              (ap (λ z. slice_get z (length old + j)) a.joins ∙ append_after old (map (raised (length old)) a.source) j ∙ slice_get-map
              (raised (length old)) a.source j ∙ ap (option_map (raised (length old))) is);
        }
  ];
  roots_at = λ k lt. elim (cases_lt k i) [
    | inl less ↦ rw (get_or_append_left roots (root ∷ []) 0 k (omega (arith, h.roots_len))) (h.roots_at k less)
    | inr past ↦
        let e : k ≡ i = omega arith in
        subst (λ z. get_or (roots ++ root ∷ []) z 0 + 1 ≡ bound_of trees (z + 1)) (sym e)
        (rw (get_or_push roots root 0 i h.roots_len) (omega (arith, h.len, a.last, next, long, covers_size a.covers)))
  ];
}
  where
    next : bound_of trees (i + 1) ≡ bound_of trees i + size_of tree
    next = ap (bound_of trees) (add-one i) ∙ bound_next trees i tree at

    long : length new ≡ length old + length a.source
    long = ap length a.joins ∙ length-append old (map (raised (length old)) a.source) ∙ ap (λ z. length old + z)
        (length-map a.source (raised (length old)))

pub join_begin : (trees : List Tree) → AreConcatenated trees [] [] 0
join_begin trees = record {
  len = sym (bound_first trees);
  roots_len = refl;
  parts = λ k t lt. absurd (omega arith);
  roots_at =
      λ k lt. absurd (omega arith);
}
  where
    bound_first : (ts : List Tree) → bound_of ts 0 ≡ 0
    bound_first [] = refl
    bound_first (t ∷ ts) = refl

-- all trees have the nodes of each
pub bound_sum : (trees : List Tree) → bound_of trees (length trees) ≡ sum_by size_of trees
bound_sum [] = refl
bound_sum (t ∷ ts) = ap (λ z. size_of t + z) (bound_sum ts) ∙ sym (sum_by-cons size_of t ts)

-- the places of parts are small where the nodes before them fit into memory
pub parts_fit : (old more nodes : List RegexNode) (f : RegexNode → RegexNode) (i : ℕ) → nodes ≡ old ++ map f (take i more)
    → AreParts more → i < length more → length nodes < 2 ^ 63 → PartsBelow (2 ^ 63) (get_or more i (n.Set []))
parts_fit old more nodes f i e h lt small =
    let long : length nodes ≡ length old + i = ap length e ∙ length-append old (map f (take i more)) ∙ ap (λ z. length old + z)
    (length-map (take i more) f ∙ length-take-le i more (omega arith)) in
    parts_more (get_or more i (n.Set [])) i (2 ^ 63) (omega arith) (h i (get_or more i (n.Set [])) (slice_get-get_or more i (n.Set []) lt))
