-- Each node of expressions is a part of one node at most.
use Rattle.std.proofs.Common.{◌≡◌, ℕ, ◌+◌, ◌≤◌, ◌<◌, List, [], ◌∷◌, refl, sym, ◌∙◌, ap, subst, arith, inl, inr, Some, length, get_or, add-one}
use Rattle.std.specs.Prelude.{slice_get}
use Rattle.std.proofs.lemmas.Bool.{cases_lt, cases_order}
use Rattle.std.proofs.lemmas.Option.{slice_get-get_or, slice_get_within, same_Some}
use Rattle.wb_regex.specs.Tree.{Tree, Set}
use Rattle.wb_regex.specs.Covers as w
use Rattle.wb_regex.specs.declared.node.RegexNode.{RegexNode}
use Rattle.wb_regex.specs.declared.node.RegexNode.TheVariants as n
use Rattle.wb_automata_positions.specs.Sizes.{size_of}
use Rattle.wb_automata_positions.specs.Inner.Bounds.{bound_of}
use Rattle.wb_automata_positions.specs.Inner.Concatenated.{AreConcatenated, raised}
use Rattle.wb_automata_positions.specs.Inner.Machines.{AreDifferent, HaveOneParent, IsPart}
use Rattle.wb_automata_positions.proofs.PartLemmas.{Located, locate}
use Rattle.wb_automata_positions.proofs.JoinLemmas.{bound_all, bound_next, bound_rises, covers_below, covers_parts, covers_size}

at_place : (nodes : List RegexNode) (i j : ℕ) (a b : RegexNode) → slice_get nodes i ≡ Some a → slice_get nodes j ≡ Some b → i ≡ j → b ≡ a
at_place nodes i j a b p q h = same_Some b a (sym q ∙ ap (slice_get nodes) (sym h) ∙ p)

-- the parts of a node of a tree are nodes of the tree, before it
pub part_within : {nodes : List RegexNode} {s e : ℕ} {tree : Tree} (j x : ℕ) (node : RegexNode) → w.Covers nodes s e tree → s ≤ j → j < e
    → slice_get nodes j ≡ Some node → IsPart node x → (s ≤ x) × (x < j)
part_within {nodes} j x node (w.set {s = s} words at f) ge lt is part =
    absurd (subst (λ z. IsPart z x) (at_place nodes s j (n.Set words) node at is (omega arith)) part)
part_within {nodes} j x node (w.sequence i k c d at f) ge lt is part = elim (cases_lt j (i + 1)) [
  | inl early ↦ part_within j x node c ge early is part
  | inr late ↦ elim (cases_lt j (k + 1)) [
    | inl less ↦ (let b = covers_below c in let (u, v) = part_within j x node d late less is part in (omega arith, omega arith))
    | inr past ↦
        let b = covers_below c in
        let g = covers_below d in
        elim (subst (λ z. IsPart z x) (at_place nodes (k + 1) j (n.Sequence i k) node at is (omega arith)) part) [
          | inl h ↦ (omega arith, omega arith)
          | inr h ↦ (omega arith, omega arith)
        ]
  ]
]
part_within {nodes} j x node (w.choice i k c d at f) ge lt is part = elim (cases_lt j (i + 1)) [
  | inl early ↦ part_within j x node c ge early is part
  | inr late ↦ elim (cases_lt j (k + 1)) [
    | inl less ↦ (let b = covers_below c in let (u, v) = part_within j x node d late less is part in (omega arith, omega arith))
    | inr past ↦
        let b = covers_below c in
        let g = covers_below d in
        elim (subst (λ z. IsPart z x) (at_place nodes (k + 1) j (n.Choice i k) node at is (omega arith)) part) [
          | inl h ↦ (omega arith, omega arith)
          | inr h ↦ (omega arith, omega arith)
        ]
  ]
]
part_within {nodes} j x node (w.star i c at f) ge lt is part = elim (cases_lt j (i + 1)) [
  | inl early ↦ part_within j x node c ge early is part
  | inr past ↦
      let b = covers_below c in
      let h : x ≡ i = subst (λ z. IsPart z x) (at_place nodes (i + 1) j (n.Star i) node at is (omega arith)) part in
      (omega arith, omega arith)
]
part_within {nodes} j x node (w.plus i c at f) ge lt is part = elim (cases_lt j (i + 1)) [
  | inl early ↦ part_within j x node c ge early is part
  | inr past ↦
      let b = covers_below c in
      let h : x ≡ i = subst (λ z. IsPart z x) (at_place nodes (i + 1) j (n.Plus i) node at is (omega arith)) part in
      (omega arith, omega arith)
]
part_within {nodes} j x node (w.maybe i c at f) ge lt is part = elim (cases_lt j (i + 1)) [
  | inl early ↦ part_within j x node c ge early is part
  | inr past ↦
      let b = covers_below c in
      let h : x ≡ i = subst (λ z. IsPart z x) (at_place nodes (i + 1) j (n.Maybe i) node at is (omega arith)) part in
      (omega arith, omega arith)
]

-- the parts of a node are different
pub parts_differ : {nodes : List RegexNode} {s e : ℕ} {tree : Tree} (j : ℕ) (node : RegexNode) → w.Covers nodes s e tree → s ≤ j → j < e
    → slice_get nodes j ≡ Some node → AreDifferent node
parts_differ {nodes} j node (w.set {s = s} words at f) ge lt is =
    subst AreDifferent (sym (at_place nodes s j (n.Set words) node at is (omega arith))) tt
parts_differ {nodes} j node (w.sequence i k c d at f) ge lt is = elim (cases_lt j (i + 1)) [
  | inl early ↦ parts_differ j node c ge early is
  | inr late ↦ elim (cases_lt j (k + 1)) [
    | inl less ↦ parts_differ j node d late less is
    | inr past ↦ (let g = covers_below d in subst AreDifferent (sym (at_place nodes (k + 1) j (n.Sequence i k) node at is (omega arith)))
        (omega arith))
  ]
]
parts_differ {nodes} j node (w.choice i k c d at f) ge lt is = elim (cases_lt j (i + 1)) [
  | inl early ↦ parts_differ j node c ge early is
  | inr late ↦ elim (cases_lt j (k + 1)) [
    | inl less ↦ parts_differ j node d late less is
    | inr past ↦ (let g = covers_below d in subst AreDifferent (sym (at_place nodes (k + 1) j (n.Choice i k) node at is (omega arith)))
        (omega arith))
  ]
]
parts_differ {nodes} j node (w.star i c at f) ge lt is = elim (cases_lt j (i + 1)) [
  | inl early ↦ parts_differ j node c ge early is
  | inr past ↦ subst AreDifferent (sym (at_place nodes (i + 1) j (n.Star i) node at is (omega arith))) tt
]
parts_differ {nodes} j node (w.plus i c at f) ge lt is = elim (cases_lt j (i + 1)) [
  | inl early ↦ parts_differ j node c ge early is
  | inr past ↦ subst AreDifferent (sym (at_place nodes (i + 1) j (n.Plus i) node at is (omega arith))) tt
]
parts_differ {nodes} j node (w.maybe i c at f) ge lt is = elim (cases_lt j (i + 1)) [
  | inl early ↦ parts_differ j node c ge early is
  | inr past ↦ subst AreDifferent (sym (at_place nodes (i + 1) j (n.Maybe i) node at is (omega arith))) tt
]

-- two nodes of a tree have no part in common
pub parts_apart : {nodes : List RegexNode} {s e : ℕ} {tree : Tree} (i j x : ℕ) (node other : RegexNode) → w.Covers nodes s e tree → s ≤ i
    → i < j → j < e → slice_get nodes i ≡ Some node → slice_get nodes j ≡ Some other → IsPart node x → IsPart other x → ⊥
parts_apart i j x node other (w.set words at f) ge less lt is is_other part part_other = omega arith
parts_apart {nodes} i j x node other (w.sequence a k c d at f) ge less lt is is_other part part_other = elim (cases_lt j (a + 1)) [
  | inl early ↦ parts_apart i j x node other c ge less early is is_other part part_other
  | inr late ↦ elim (cases_lt j (k + 1)) [
    | inl inner ↦ elim (cases_lt i (a + 1)) [
      | inl before ↦ (let (u, v) = part_within i x node c ge before is part in
          let (y, z) = part_within j x other d late inner is_other part_other in omega arith)
      | inr after ↦ parts_apart i j x node other d after less inner is is_other part part_other
    ]
    | inr past ↦ elim (subst (λ z. IsPart z x) (at_place nodes (k + 1) j (n.Sequence a k) other at is_other (omega arith)) part_other) [
      | inl h ↦ (let g = covers_below d in elim (cases_lt i (a + 1)) [
        | inl before ↦ (let (u, v) = part_within i x node c ge before is part in omega arith)
        | inr after ↦ (let (u, v) = part_within i x node d after (omega arith) is part in omega arith)
      ])
      | inr h ↦ (let g = covers_below d in elim (cases_lt i (a + 1)) [
        | inl before ↦ (let (u, v) = part_within i x node c ge before is part in omega arith)
        | inr after ↦ (let (u, v) = part_within i x node d after (omega arith) is part in omega arith)
      ])
    ]
  ]
]
parts_apart {nodes} i j x node other (w.choice a k c d at f) ge less lt is is_other part part_other = elim (cases_lt j (a + 1)) [
  | inl early ↦ parts_apart i j x node other c ge less early is is_other part part_other
  | inr late ↦ elim (cases_lt j (k + 1)) [
    | inl inner ↦ elim (cases_lt i (a + 1)) [
      | inl before ↦ (let (u, v) = part_within i x node c ge before is part in
          let (y, z) = part_within j x other d late inner is_other part_other in omega arith)
      | inr after ↦ parts_apart i j x node other d after less inner is is_other part part_other
    ]
    | inr past ↦ elim (subst (λ z. IsPart z x) (at_place nodes (k + 1) j (n.Choice a k) other at is_other (omega arith)) part_other) [
      | inl h ↦ (let g = covers_below d in elim (cases_lt i (a + 1)) [
        | inl before ↦ (let (u, v) = part_within i x node c ge before is part in omega arith)
        | inr after ↦ (let (u, v) = part_within i x node d after (omega arith) is part in omega arith)
      ])
      | inr h ↦ (let g = covers_below d in elim (cases_lt i (a + 1)) [
        | inl before ↦ (let (u, v) = part_within i x node c ge before is part in omega arith)
        | inr after ↦ (let (u, v) = part_within i x node d after (omega arith) is part in omega arith)
      ])
    ]
  ]
]
parts_apart {nodes} i j x node other (w.star a c at f) ge less lt is is_other part part_other = elim (cases_lt j (a + 1)) [
  | inl early ↦ parts_apart i j x node other c ge less early is is_other part part_other
  | inr past ↦
      let h : x ≡ a = subst (λ z. IsPart z x) (at_place nodes (a + 1) j (n.Star a) other at is_other (omega arith)) part_other in
      let (u, v) = part_within i x node c ge (omega arith) is part in
      omega arith
]
parts_apart {nodes} i j x node other (w.plus a c at f) ge less lt is is_other part part_other = elim (cases_lt j (a + 1)) [
  | inl early ↦ parts_apart i j x node other c ge less early is is_other part part_other
  | inr past ↦
      let h : x ≡ a = subst (λ z. IsPart z x) (at_place nodes (a + 1) j (n.Plus a) other at is_other (omega arith)) part_other in
      let (u, v) = part_within i x node c ge (omega arith) is part in
      omega arith
]
parts_apart {nodes} i j x node other (w.maybe a c at f) ge less lt is is_other part part_other = elim (cases_lt j (a + 1)) [
  | inl early ↦ parts_apart i j x node other c ge less early is is_other part part_other
  | inr past ↦
      let h : x ≡ a = subst (λ z. IsPart z x) (at_place nodes (a + 1) j (n.Maybe a) other at is_other (omega arith)) part_other in
      let (u, v) = part_within i x node c ge (omega arith) is part in
      omega arith
]

-- the nodes of a tree, where they are raised among others
pub covers_raised : (source nodes : List RegexNode) (m : ℕ) → ((k : ℕ) (node : RegexNode) → slice_get source k ≡ Some node → slice_get nodes
    (m + k) ≡ Some (raised m node)) → {s e : ℕ} {tree : Tree} → w.Covers source s e tree → (a b : ℕ) → a ≡ m + s → b ≡ m + e
    → w.Covers nodes a b tree
covers_raised source nodes m embeds (w.set {s = s} words at f) a b p q =
    w.set words (subst (λ z. slice_get nodes z ≡ Some (n.Set words)) (sym p) (embeds s (n.Set words) at)) (omega arith)
covers_raised source nodes m embeds (w.sequence i k c d at f) a b p q = w.sequence (m + i) (m + k)
    (covers_raised source nodes m embeds c a (m + i + 1) p (omega arith))
    (covers_raised source nodes m embeds d (m + i + 1) (m + k + 1) (omega arith) (omega arith))
    (subst (λ z. slice_get nodes z ≡ Some (n.Sequence (m + i) (m + k))) (let g : m + (k + 1) ≡ m + k + 1 = omega arith in g)
    (embeds (k + 1) (n.Sequence i k) at)) (omega arith)
covers_raised source nodes m embeds (w.choice i k c d at f) a b p q = w.choice (m + i) (m + k)
    (covers_raised source nodes m embeds c a (m + i + 1) p (omega arith))
    (covers_raised source nodes m embeds d (m + i + 1) (m + k + 1) (omega arith) (omega arith))
    (subst (λ z. slice_get nodes z ≡ Some (n.Choice (m + i) (m + k))) (let g : m + (k + 1) ≡ m + k + 1 = omega arith in g)
    (embeds (k + 1) (n.Choice i k) at)) (omega arith)
covers_raised source nodes m embeds (w.star i c at f) a b p q = w.star (m + i)
    (covers_raised source nodes m embeds c a (m + i + 1) p (omega arith))
    (subst (λ z. slice_get nodes z ≡ Some (n.Star (m + i))) (let g : m + (i + 1) ≡ m + i + 1 = omega arith in g)
    (embeds (i + 1) (n.Star i) at)) (omega arith)
covers_raised source nodes m embeds (w.plus i c at f) a b p q = w.plus (m + i)
    (covers_raised source nodes m embeds c a (m + i + 1) p (omega arith))
    (subst (λ z. slice_get nodes z ≡ Some (n.Plus (m + i))) (let g : m + (i + 1) ≡ m + i + 1 = omega arith in g)
    (embeds (i + 1) (n.Plus i) at)) (omega arith)
covers_raised source nodes m embeds (w.maybe i c at f) a b p q = w.maybe (m + i)
    (covers_raised source nodes m embeds c a (m + i + 1) p (omega arith))
    (subst (λ z. slice_get nodes z ≡ Some (n.Maybe (m + i))) (let g : m + (i + 1) ≡ m + i + 1 = omega arith in g)
    (embeds (i + 1) (n.Maybe i) at)) (omega arith)

bound_first : (ts : List Tree) → bound_of ts 0 ≡ 0
bound_first [] = refl
bound_first (t ∷ ts) = refl

module _ (trees : List Tree) (nodes : List RegexNode) (roots : List ℕ) (h : AreConcatenated trees nodes roots (length trees)) where
  -- the nodes of each tree
  pub tree_covers : (k : ℕ) (tree : Tree) → slice_get trees k ≡ Some tree → w.Covers nodes (bound_of trees k) (bound_of trees (k + 1)) tree
  tree_covers k tree at =
      let lt = slice_get_within trees k tree at in
      let p = h.parts k tree lt at in
      let long : size_of tree ≡ length p.source = omega (arith, covers_size p.covers) in
      covers_raised p.source nodes (bound_of trees k) p.embeds p.covers (bound_of trees k) (bound_of trees (k + 1)) (omega arith)
      (ap (bound_of trees) (add-one k) ∙ bound_next trees k tree at ∙ ap (λ z. bound_of trees k + z) long)

  -- the tree of a node
  pub node_at : (j : ℕ) → j < length nodes → Located (bound_of trees) (length trees) j
  node_at j lt = locate (bound_of trees) (length trees) j (bound_first trees) (omega (arith, h.len))

  covers_at : (k : ℕ) → k < length trees → w.Covers nodes (bound_of trees k) (bound_of trees (k + 1)) (get_or trees k (Set []))
  covers_at k lt = tree_covers k (get_or trees k (Set [])) (slice_get-get_or trees k (Set []) lt)

  root_is : (k : ℕ) → k < length roots → get_or roots k 0 + 1 ≡ bound_of trees (k + 1)
  root_is k lt = h.roots_at k (omega (arith, h.roots_len))

  -- a part lies in the range of the tree of its node, before the root
  part_in : (j x : ℕ) (node : RegexNode) (l : Located (bound_of trees) (length trees) j) → slice_get nodes j ≡ Some node → IsPart node x
      → (bound_of trees l.number ≤ x) × (x < j)
  part_in j x node l is part = part_within j x node (covers_at l.number l.lt) l.least l.below is part

  pub one_parent : HaveOneParent nodes roots
  one_parent = record {
    parts = λ j node is.
        let l = node_at j (slice_get_within nodes j node is) in
        covers_parts j node (covers_at l.number l.lt) l.least l.below is;
    different = λ j node is.
        let l = node_at j (slice_get_within nodes j node is) in
        parts_differ j node (covers_at l.number l.lt) l.least l.below is;
    apart = λ i j x node other less is is_other part part_other.
        let l = node_at i (slice_get_within nodes i node is) in
        let k = node_at j (slice_get_within nodes j other is_other) in
        let (u, v) = part_in i x node l is part in
        let (y, z) = part_in j x other k is_other part_other in
        let from = l.least in
        let below = k.below in
        elim (cases_order l.number k.number) [
          | inl same ↦ parts_apart i j x node other (covers_at k.number k.lt)
              (subst (λ z. bound_of trees z ≤ i) same l.least) less k.below is is_other part part_other
          | inr (inl early) ↦ (let own = l.below in let up = bound_rises trees (l.number + 1) k.number (omega arith) in omega arith)
          | inr (inr late) ↦ (let up = bound_rises trees (k.number + 1) l.number (omega arith) in omega arith)
        ];
    roots_below = λ k lt. omega (arith, root_is k lt, h.len, bound_all trees (k + 1));
    roots_apart = λ k l less lt.
        let up = bound_rises trees (k + 1) l (omega arith) in
        let b = covers_below (covers_at l (omega (arith, h.roots_len))) in
        omega (arith, root_is k (omega arith), root_is l lt);
    roots_free = λ j k x node lt is part e.
        let l = node_at j (slice_get_within nodes j node is) in
        let (u, v) = part_in j x node l is part in
        let below = l.below in
        let b = covers_below (covers_at k (omega (arith, h.roots_len))) in
        elim (cases_order l.number k) [
          | inl same ↦ omega (arith, root_is k lt, ap (λ z. bound_of trees (z + 1)) same)
          | inr (inl early) ↦ (let up = bound_rises trees (l.number + 1) k (omega arith) in omega (arith, root_is k lt))
          | inr (inr late) ↦ (let up = bound_rises trees (k + 1) l.number (omega arith) in omega (arith, root_is k lt))
        ];
  }
