-- A store's nodes and values: how trees and invariant follow when a node is added, when nodes are cut off, and at a place.
use Rattle.std.proofs.Common.{◌≡◌, ℕ, zero, suc, ◌+◌, ◌-◌, ◌<◌, ◌≤◌, List, [], ◌∷◌, ◌++◌, length, take, drop, All, get_or, refl, sym, subst}
use Rattle.std.proofs.Common.{ap, ◌∙◌, arith, length-append, length-drop, append_assoc, append-nil}
use Rattle.std.proofs.lemmas.List.{take-append-le, drop-append-le, take-append-drop, drop_at, take_all, length-take-le}
use Rattle.wb_values.specs.Tree.{Tree, node, empty}
use Rattle.wb_values.specs.ValuesIn.{tree_in, values_in, IsIn}
use Rattle.wb_values.specs.declared.value.Value.{Value}
use Rattle.wb_values.specs.declared.node.Node.{Node}
use Rattle.wb_values.specs.Trees.{Built, built_from, tree_of, grown, trees_of, IsOrdered, IsLaid, IsStore}
use Rattle.wb_values.specs.InPlace.{children_after, IsSized, AreSized}
use Rattle.wb_values.specs.Inner.Begin.{begin}
use Rattle.wb_values.proofs.Grown.{grown-snoc, length-grown, grown-at, take-grown, ordered-snoc, ordered-take, ordered-at}

-- the children begin at their end at the latest
laid-le : (start : ℕ) (ns : List Node) (end : ℕ) → IsLaid start ns end → start ≤ end
laid-le start [] end h = omega (arith, h)
laid-le start (n ∷ ns) end h = let k = laid-le n.end ns end h.1 in omega (arith, h.0, k)

-- one node more
laid-snoc : (start : ℕ) (ns : List Node) (end : ℕ) (n : Node) → IsLaid start ns end → end ≤ n.end → IsLaid start (ns ++ n ∷ []) n.end
laid-snoc start [] end n h le = (omega (arith, h, le), refl)
laid-snoc start (m ∷ ms) end n h le = (h.0, laid-snoc m.end ms end n h.1 le)

-- the first nodes end where the next begins
laid-take : (start : ℕ) (ns : List Node) (end k : ℕ) → IsLaid start ns end → k ≤ length ns → IsLaid start (take k ns) (begin start ns k)
laid-take start ns end zero h le = refl
laid-take start [] end (suc k) h le = absurd (omega (arith, le))
laid-take start (m ∷ ms) end (suc k) h le = (h.0, laid-take m.end ms end k h.1 (omega (arith, le)))

-- the children of a node begin before the end of all
pub begin-le : (start : ℕ) (ns : List Node) (end k : ℕ) → IsLaid start ns end → begin start ns k ≤ end
begin-le start ns end zero h = laid-le start ns end h
begin-le start [] end (suc k) h = laid-le start [] end h
begin-le start (m ∷ ms) end (suc k) h = begin-le m.end ms end k h.1

-- the children of a node end after their begin, and inside
pub laid-at : (start : ℕ) (ns : List Node) (end k : ℕ) (n : Node) → IsLaid start ns end → k < length ns → get_or ns k n ≡ n →
    (begin start ns k ≤ n.end) × (n.end ≤ end)
laid-at start [] end k n h lt is = absurd (omega (arith, lt))
laid-at start (m ∷ ms) end zero n h lt is =
    subst (λ (x : Node). (start ≤ x.end) × (x.end ≤ end)) is (h.0, laid-le m.end ms end h.1)
laid-at start (m ∷ ms) end (suc k) n h lt is = laid-at m.end ms end k n h.1 (omega (arith, lt)) is

-- the children of a node begin at the end of those of the node before
pub begin-after : (start : ℕ) (ns : List Node) (k : ℕ) (d : Node) → k < length ns → begin start ns (suc k) ≡ (get_or ns k d).end
begin-after start [] k d lt = absurd (omega (arith, lt))
begin-after start (m ∷ ms) zero d lt = refl
begin-after start (m ∷ ms) (suc k) d lt = begin-after m.end ms k d (omega (arith, lt))

-- more values after a slice don't change it
slice-stable : (first count : ℕ) (vs more : List Value) → first + count ≤ length vs → take count (drop first (vs ++ more)) ≡ take count
    (drop first vs)
slice-stable first count vs more h =
    let a : drop first (vs ++ more) ≡ drop first vs ++ more = drop-append-le first vs more (omega (arith, h)) in
    let b : take count (drop first vs ++ more) ≡ take count (drop first vs) = take-append-le count (drop first vs) more
    (omega (arith, length-drop first vs, h)) in
    ap (take count) a ∙ b

-- nor any of the nodes
built-stable : (before : List Node) (start : ℕ) (ns : List Node) (end : ℕ) (vs more : List Value) → IsLaid start ns end → end ≤ length vs
    → built_from before start (vs ++ more) ns ≡ built_from before start vs ns
built-stable before start [] end vs more h le = refl
built-stable before start (n ∷ ns) end vs more h le =
    let k = laid-le n.end ns end h.1 in
    let a = slice-stable start (n.end - start) vs more (omega (arith, h.0, k, le)) in
    let b = built-stable (before ++ n ∷ []) n.end ns end vs more h.1 le in
    cc (a, b)

-- the nodes with their children, with one node more whose others are the values after the others
built-snoc : (before : List Node) (start : ℕ) (ns : List Node) (vs os : List Value) (n : Node) → IsLaid start ns (length vs)
    → n.end ≡ length vs + length os
    → built_from before start (vs ++ os) (ns ++ n ∷ []) ≡ built_from before start vs ns ++ (n.production, children_after (before ++ ns) n os) ∷ []
built-snoc before start [] vs os n h e =
    let d : drop start (vs ++ os) ≡ os = drop_at vs os start (sym h) in
    let a : take (n.end - start) os ≡ os = take_all (n.end - start) os (omega (arith, h, e)) in
    ap (λ (xs : List Value). (n.production, children_after before n xs) ∷ []) (ap (take (n.end - start)) d ∙ a)
    ∙ ap (λ (xs : List Node). (n.production, children_after xs n os) ∷ []) (sym (append-nil before))
built-snoc before start (m ∷ ms) vs os n h e =
    let k = laid-le m.end ms (length vs) h.1 in
    let a = slice-stable start (m.end - start) vs os (omega (arith, h.0, k)) in
    let b = built-snoc (before ++ m ∷ []) m.end ms vs os n h.1 e in
    let d = append_assoc before (m ∷ []) ms in
    cc (a, b, d)

-- the first nodes
built-first : (before : List Node) (start k : ℕ) (vs : List Value) (ns : List Node)
    → built_from before start vs (take k ns) ≡ take k (built_from before start vs ns)
built-first before start zero vs ns = refl
built-first before start (suc k) vs [] = refl
built-first before start (suc k) vs (n ∷ ns) =
    ap (λ (bs : List Built). (n.production, children_after before n (take (n.end - start) (drop start vs))) ∷ bs)
    (built-first (before ++ n ∷ []) n.end k vs ns)

-- as many as nodes
length-built : (before : List Node) (start : ℕ) (vs : List Value) (ns : List Node) → length (built_from before start vs ns) ≡ length ns
length-built before start vs [] = refl
length-built before start vs (n ∷ ns) = ap suc (length-built (before ++ n ∷ []) n.end vs ns)

-- the node at a place, with its children
built-at : (before : List Node) (start : ℕ) (ns : List Node) (vs : List Value) (k : ℕ) (n : Node) (d : Built) → k < length ns
    → get_or ns k n ≡ n → get_or (built_from before start vs ns) k d
    ≡ (n.production, children_after (before ++ take k ns) n (take (n.end - begin start ns k) (drop (begin start ns k) vs)))
built-at before start [] vs k n d lt is = absurd (omega (arith, lt))
built-at before start (m ∷ ms) vs zero n d lt is =
    ap (λ (x : Node). (x.production, children_after before x (take (x.end - start) (drop start vs)))) is
    ∙ ap (λ (xs : List Node). (n.production, children_after xs n (take (n.end - start) (drop start vs)))) (sym (append-nil before))
built-at before start (m ∷ ms) vs (suc k) n d lt is =
    let os = take (n.end - begin m.end ms k) (drop (begin m.end ms k) vs) in
    built-at (before ++ m ∷ []) m.end ms vs k n d (omega (arith, lt)) is
    ∙ ap (λ (xs : List Node). (n.production, children_after xs n os)) (append_assoc before (m ∷ []) (take k ms))

-- one node more has its size
sized-snoc : (before ns : List Node) (n : Node) → AreSized before ns → IsSized (before ++ ns) n → AreSized before (ns ++ n ∷ [])
sized-snoc before [] n s is = (subst (λ (xs : List Node). IsSized xs n) (append-nil before) is, tt)
sized-snoc before (m ∷ ms) n s is =
    (s.0, sized-snoc (before ++ m ∷ []) ms n s.1 (subst (λ (xs : List Node). IsSized xs n) (sym (append_assoc before (m ∷ []) ms)) is))

-- the first nodes have theirs
sized-take : (before : List Node) (k : ℕ) (ns : List Node) → AreSized before ns → AreSized before (take k ns)
sized-take before zero ns s = tt
sized-take before (suc k) [] s = tt
sized-take before (suc k) (m ∷ ms) s = (s.0, sized-take (before ++ m ∷ []) k ms s.1)

-- the node at a place has its own
pub sized-at : (before ns : List Node) (k : ℕ) (n : Node) → AreSized before ns → k < length ns → get_or ns k n ≡ n
    → IsSized (before ++ take k ns) n
sized-at before [] k n s lt is = absurd (omega (arith, lt))
sized-at before (m ∷ ms) zero n s lt is =
    subst (λ (xs : List Node). IsSized xs n) (sym (append-nil before)) (subst (IsSized before) is s.0)
sized-at before (m ∷ ms) (suc k) n s lt is =
    subst (λ (xs : List Node). IsSized xs n) (append_assoc before (m ∷ []) (take k ms))
    (sized-at (before ++ m ∷ []) ms k n s.1 (omega (arith, lt)) is)

-- one node more is one tree more
pub trees-snoc : (ns : List Node) (vs os : List Value) (n : Node) → IsStore ns vs → n.end ≡ length vs + length os
    → trees_of (ns ++ n ∷ []) (vs ++ os)
    ≡ trees_of ns vs ++ node n.production (values_in (trees_of ns vs) (children_after ns n os)) ∷ []
unfolding trees_of
trees-snoc ns vs os n s e =
    ap (grown []) (built-snoc [] 0 ns vs os n s.laid e) ∙ grown-snoc [] (built_from [] 0 vs ns) (n.production, children_after ns n os)

-- one tree a node
pub length-trees : (ns : List Node) (vs : List Value) → length (trees_of ns vs) ≡ length ns
unfolding trees_of
length-trees ns vs = length-grown [] (built_from [] 0 vs ns) ∙ omega (arith, length-built [] 0 vs ns)

-- a node more keeps the invariant
pub store-snoc : (ns : List Node) (vs os : List Value) (n : Node) → IsStore ns vs → n.end ≡ length vs + length os → IsSized ns n → All
    (IsIn (length ns)) (children_after ns n os) → IsStore (ns ++ n ∷ []) (vs ++ os)
store-snoc ns vs os n s e sized below =
    let cs = children_after ns n os in
    let len : n.end ≡ length (vs ++ os) = omega (arith, length-append vs os, e) in
    let at : length ns ≡ 0 + length (built_from [] 0 vs ns) = omega (arith, length-built [] 0 vs ns) in
    let o = ordered-snoc 0 (built_from [] 0 vs ns) (n.production, cs) s.ordered (subst (λ (k : ℕ). All (IsIn k) cs) at below) in
    record {
      laid = subst (λ (k : ℕ). IsLaid 0 (ns ++ n ∷ []) k) len (laid-snoc 0 ns (length vs) n s.laid (omega (arith, e)));
      sized = sized-snoc [] ns n s.sized sized;
      ordered = subst (IsOrdered 0) (sym (built-snoc [] 0 ns vs os n s.laid e)) o;
    }

-- the first nodes with the first values
built-take : (ns : List Node) (vs : List Value) (k : ℕ) → IsStore ns vs → k ≤ length ns → built_from [] 0 (take (begin 0 ns k) vs)
    (take k ns) ≡ take k (built_from [] 0 vs ns)
built-take ns vs k s le =
    let first = begin 0 ns k in
    let within = begin-le 0 ns (length vs) k s.laid in
    let len : length (take first vs) ≡ first = length-take-le first vs within in
    let a = built-stable [] 0 (take k ns) first (take first vs) (drop first vs) (laid-take 0 ns (length vs) k s.laid le)
    (omega (arith, len)) in
    let b = take-append-drop first vs in
    sym (subst (λ (xs : List Value). built_from [] 0 xs (take k ns) ≡ built_from [] 0 (take first vs) (take k ns)) b a)
    ∙ built-first [] 0 k vs ns

-- the first nodes are the first trees
pub trees-take : (ns : List Node) (vs : List Value) (k : ℕ) → IsStore ns vs → k ≤ length ns → trees_of (take k ns)
    (take (begin 0 ns k) vs) ≡ take k (trees_of ns vs)
unfolding trees_of
trees-take ns vs k s le =
    let e : 0 + k ≡ k = omega arith in
    let bs = built_from [] 0 vs ns in
    ap (grown []) (built-take ns vs k s le) ∙ sym (subst (λ (m : ℕ). take m (grown [] bs) ≡ grown [] (take k bs)) e (take-grown [] bs k))

-- the first nodes keep the invariant
pub store-take : (ns : List Node) (vs : List Value) (k : ℕ) → IsStore ns vs → k ≤ length ns → IsStore (take k ns) (take (begin 0 ns k) vs)
store-take ns vs k s le =
    let len : begin 0 ns k ≡ length (take (begin 0 ns k) vs) = sym
    (length-take-le (begin 0 ns k) vs (begin-le 0 ns (length vs) k s.laid)) in
    record {
      laid = subst (λ (m : ℕ). IsLaid 0 (take k ns) m) len (laid-take 0 ns (length vs) k s.laid le);
      sized = sized-take [] k ns s.sized;
      ordered = subst (IsOrdered 0) (sym (built-take ns vs k s le)) (ordered-take 0 k (built_from [] 0 vs ns) s.ordered);
    }

-- the children of the node at a place
abbrev pub children_at : List Node → List Value → ℕ → Node → List Value
children_at ns vs k n = children_after (take k ns) n (take (n.end - begin 0 ns k) (drop (begin 0 ns k) vs))

-- the tree at a place is that of the node there
trees-at : (ns : List Node) (vs : List Value) (k : ℕ) (n : Node) → IsStore ns vs → k < length ns → get_or ns k n ≡ n
    → tree_in (trees_of ns vs) k ≡ tree_of (trees_of ns vs) (n.production, children_at ns vs k n)
unfolding trees_of
trees-at ns vs k n s lt is =
    let bs = built_from [] 0 vs ns in
    let b : Built = (n.production, children_at ns vs k n) in
    let e : 0 + k ≡ k = omega arith in
    let below : k < length bs = omega (arith, length-built [] 0 vs ns, lt) in
    subst (λ (m : ℕ). get_or (grown [] bs) m (node 0 empty) ≡ tree_of (grown [] bs) b) e
    (grown-at [] bs k b (node 0 empty) below s.ordered (built-at [] 0 ns vs k n b lt is))

-- the children of the node at a place name lower trees alone
below-at : (ns : List Node) (vs : List Value) (k : ℕ) (n : Node) → IsStore ns vs → k < length ns → get_or ns k n ≡ n → All (IsIn k)
    (children_at ns vs k n)
below-at ns vs k n s lt is =
    let bs = built_from [] 0 vs ns in
    let b : Built = (n.production, children_at ns vs k n) in
    let e : 0 + k ≡ k = omega arith in
    let below : k < length bs = omega (arith, length-built [] 0 vs ns, lt) in
    subst (λ (m : ℕ). All (IsIn m) b.1) e (ordered-at 0 bs k b below s.ordered (built-at [] 0 ns vs k n b lt is))

-- what is known of the node at a place, in a store that shows these trees
pub record NodeAt (trees : List Tree) (ns : List Node) (vs : List Value) (k : ℕ) (n : Node) : Type 0 where
  pub begins : begin 0 ns k ≤ n.end
  pub ends : n.end ≤ length vs
  pub tree : node n.production (values_in trees (children_at ns vs k n)) ≡ tree_in trees k
  pub below : All (IsIn k) (children_at ns vs k n)

-- it is known of each
pub node-at : (trees : List Tree) (ns : List Node) (vs : List Value) (k : ℕ) (n : Node) → IsStore ns vs → trees_of ns vs ≡ trees
    → k < length trees → n ≡ get_or ns k n
    → NodeAt trees ns vs k n
node-at trees ns vs k n s shown within is =
    let lt : k < length ns = omega (arith, ap length shown, length-trees ns vs, within) in
    let laid = laid-at 0 ns (length vs) k n s.laid lt (sym is) in
    record {
      begins = laid.0;
      ends = laid.1;
      tree = subst (λ (ts : List Tree). node n.production (values_in ts (children_at ns vs k n)) ≡ tree_in ts k) shown
          (sym (trees-at ns vs k n s lt (sym is)));
      below = below-at ns vs k n s lt (sym is);
    }
