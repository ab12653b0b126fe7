-- The child of a node at a place, and where it is.
use Rattle.std.proofs.Common.{◌≡◌, ℕ, ◌+◌, ◌-◌, ◌^◌, ◌<◌, ◌≤◌, List, [], Option, Some, length, take, drop, reverse, get_or, refl, sym, ap, subst}
use Rattle.std.proofs.Common.{◌∙◌, arith, length-drop, count_ones}
use Rattle.std.specs.Prelude.{None, IfSome, IfNone, slice_get, false}
use Rattle.std.specs.Option.{option_map}
use Rattle.std.proofs.lemmas.List.{get_or_default, length-take-le, length-reverse, get_or-reverse, reverse-reverse}
use Rattle.std.proofs.lemmas.Option.{slice_get-get_or}
use Rattle.wb_values.specs.Tree.{Tree, Values, children_of, value_at, count_of}
use Rattle.wb_values.specs.Tree as v
use Rattle.wb_values.specs.ValuesIn.{tree_in, value_in, values_in, IsIn, AreChildren}
use Rattle.wb_values.specs.declared.value.TreeId.{TreeId}
use Rattle.wb_values.specs.declared.value.Value.{Value}
use Rattle.wb_values.specs.declared.value.Value.TheVariants.{Int, Bool, Text, Tree as Stored}
use Rattle.wb_values.specs.declared.node.Node.{Node}
use Rattle.wb_values.specs.declared.walk.Position.{Position}
use Rattle.wb_values.specs.InPlace.{no_node, node_at}
use Rattle.wb_values.specs.Trees.{trees_of, IsStore}
use Rattle.wb_values.specs.Inner.Begin.{begin}
use Rattle.wb_values.specs.Inner.Layouts.{backwards, IsPosition}
use Rattle.wb_values.proofs.CallerLemmas.{value_at-values_in, count_of-values_in}
use Rattle.wb_values.proofs.Laid.{children_at, length-trees, NodeAt, node-at, sized-at}
use Rattle.wb_values.proofs.WalkLemmas.{length_back}

-- what is known of a node, whatever stands for those past the end
pub node-there : (trees : List Tree) (ns : List Node) (vs : List Value) (k : ℕ) → IsStore ns vs → trees_of ns vs ≡ trees → k < length trees
    → NodeAt trees ns vs k (node_at ns k)
node-there trees ns vs k s shown within =
    let lt : k < length ns = omega (arith, ap length shown, length-trees ns vs, within) in
    node-at trees ns vs k (node_at ns k) s shown within (get_or_default ns k no_node (node_at ns k) lt)

-- it has at most 32 digits
digits-few : (trees : List Tree) (ns : List Node) (vs : List Value) (k : ℕ) → IsStore ns vs → trees_of ns vs ≡ trees → k < length trees
    → (node_at ns k).inner < 2 ^ 32
digits-few trees ns vs k s shown within =
    let lt : k < length ns = omega (arith, ap length shown, length-trees ns vs, within) in
    (sized-at [] ns k (node_at ns k) s.sized lt (sym (get_or_default ns k no_node (node_at ns k) lt))).digits

-- as many children as digits that are 1, and values
length-backwards : (trees : List Tree) (ns : List Node) (vs : List Value) (k : ℕ) → NodeAt trees ns vs k (node_at ns k)
    → (node_at ns k).inner < 2 ^ 32
    → length (backwards ns vs k (node_at ns k)) ≡ count_ones (node_at ns k).inner + ((node_at ns k).end - begin 0 ns k)
length-backwards trees ns vs k at few =
    let n = node_at ns k in
    let b = begin 0 ns k in
    let others : length (take (n.end - b) (drop b vs)) ≡ n.end - b =
    length-take-le (n.end - b) (drop b vs) (omega (arith, length-drop b vs, at.begins, at.ends)) in
    length_back 32 (take k ns) n.inner k (take (n.end - b) (drop b vs)) few ∙ ap (λ (m : ℕ). count_ones n.inner + m) others

-- the children of a node are those that a walk comes to, the other way round
turned : (trees : List Tree) (ns : List Node) (vs : List Value) (k : ℕ) → NodeAt trees ns vs k (node_at ns k) → k ≤ length ns
    → children_at ns vs k (node_at ns k) ≡ reverse (backwards ns vs k (node_at ns k))
turned trees ns vs k at within =
    let n = node_at ns k in
    let b = begin 0 ns k in
    let len : length (take k ns) ≡ k = length-take-le k ns within in
    ap (λ (m : ℕ). reverse (Rattle.wb_values.specs.InPlace.children_back 32 (take k ns) n.inner m (take (n.end - b) (drop b vs)))) len

-- how many children a tree has
pub arity-is : (trees : List Tree) (ns : List Node) (vs : List Value) (k : ℕ) → IsStore ns vs → trees_of ns vs ≡ trees → k < length trees
    → count_of (children_of (tree_in trees k)) ≡ count_ones (node_at ns k).inner + ((node_at ns k).end - begin 0 ns k)
arity-is trees ns vs k s shown within =
    let few = digits-few trees ns vs k s shown within in
    let at = node-there trees ns vs k s shown within in
    let le : k ≤ length ns = omega (arith, ap length shown, length-trees ns vs, within) in
    let cs = children_at ns vs k (node_at ns k) in
    sym (ap (λ (t : Tree). count_of (children_of t)) at.tree) ∙ count_of-values_in trees cs ∙ ap length (turned trees ns vs k at le)
    ∙ length-reverse (backwards ns vs k (node_at ns k)) ∙ length-backwards trees ns vs k at few

-- the children that a walk comes to are those of the tree, the last first
pub listed-children : (trees : List Tree) (ns : List Node) (vs : List Value) (k : ℕ) → IsStore ns vs → trees_of ns vs ≡ trees
    → k < length trees
    → (children : List Value) × AreChildren trees k children × (backwards ns vs k (node_at ns k) ≡ reverse children)
listed-children trees ns vs k s shown within =
    let at = node-there trees ns vs k s shown within in
    let le : k ≤ length ns = omega (arith, ap length shown, length-trees ns vs, within) in
    let bs = backwards ns vs k (node_at ns k) in (
      children_at ns vs k (node_at ns k),
      record { values = ap children_of at.tree; below = at.below },
      sym (ap reverse (turned trees ns vs k at le) ∙ reverse-reverse bs),
    )

-- what is known of a node's child, before so many others
pub record ChildAt (trees : List Tree) (ns : List Node) (vs : List Value) (k after place : ℕ) : Type 0 where
  pub stored : Value
  pub ends : (node_at ns k).end ≤ length vs
  pub inside : after < count_ones (node_at ns k).inner + ((node_at ns k).end - begin 0 ns k)
  pub there : slice_get (backwards ns vs k (node_at ns k)) after ≡ Some stored
  pub value : value_at (children_of (tree_in trees k)) place ≡ Some (value_in trees stored)
  pub below : IsIn k stored

-- it is known of each
pub child-at : (trees : List Tree) (ns : List Node) (vs : List Value) (k after place : ℕ) → IsStore ns vs → trees_of ns vs ≡ trees
    → k < length trees → after ≡ count_of (children_of (tree_in trees k)) - 1 - place
    → place < count_of (children_of (tree_in trees k)) → ChildAt trees ns vs k after place
child-at trees ns vs k after place s shown within after_is inside =
    let few = digits-few trees ns vs k s shown within in
    let n = node_at ns k in
    let at = node-there trees ns vs k s shown within in
    let le : k ≤ length ns = omega (arith, ap length shown, length-trees ns vs, within) in
    let bs = backwards ns vs k n in
    let cs = children_at ns vs k n in
    let turn = turned trees ns vs k at le in
    let counted = arity-is trees ns vs k s shown within in
    let len = length-backwards trees ns vs k at few in
    let d = Bool false in
    let x = get_or bs after d in
    let before : place < length bs = omega (arith, inside, counted, len) in
    let up : length bs - 1 - place ≡ after = omega (arith, after_is, counted, len) in
    let same : get_or cs place d ≡ x = ap (λ (xs : List Value). get_or xs place d) turn ∙ get_or-reverse bs place d before
    ∙ ap (λ (m : ℕ). get_or bs m d) up in
    let within_all : place < length cs = omega (arith, before, ap length turn, length-reverse bs) in
    let children : children_of (tree_in trees k) ≡ values_in trees cs = sym (ap children_of at.tree) in
    record {
      stored = x;
      ends = at.ends;
      inside = omega (arith, after_is, counted, inside);
      there = slice_get-get_or bs after d (omega (arith, up, before));
      value = ap (λ (us : Values). value_at us place) children ∙ value_at-values_in trees cs place
          ∙ ap (option_map (value_in trees)) (slice_get-get_or cs place d within_all ∙ ap (λ (y : Value). Some y) same);
      below = subst (IsIn k) same (at.below place d within_all);
    }

-- a position that is that of each child is that of this one
pub position-found : (ns ms : List Node) (vs : List Value) (k after : ℕ) (x : Value) (found : Position) → ms ≡ ns
    → ((values : List Value) (child : Value) → (node_at ms k).end ≤ length values
    → slice_get (backwards ms values k (node_at ms k)) after ≡ Some child → IsPosition values child found)
    → (node_at ns k).end ≤ length vs → slice_get (backwards ns vs k (node_at ns k)) after ≡ Some x → IsPosition vs x found
position-found ns ms vs k after x found same each ends there =
    each vs x (subst (λ (xs : List Node). (node_at xs k).end ≤ length vs) (sym same) ends)
    (subst (λ (xs : List Node). slice_get (backwards xs vs k (node_at xs k)) after ≡ Some x) (sym same) there)

-- a stored value that stands for a tree is one
pub stored_tree : (trees : List Tree) (x : Value) (t : Tree) → value_in trees x ≡ v.tree t → (id : TreeId) × (x ≡ Stored id)
stored_tree trees (Int z) t is = absurd cc
stored_tree trees (Bool b) t is = absurd cc
stored_tree trees (Text s) t is = absurd cc
stored_tree trees (Stored id) t is = (id, refl)

-- what follows of a tree that was found follows where one was found
pub some_weaker : (o : Option TreeId) (P Q : TreeId → Type 0) → ((id : TreeId) → P id → Q id) → IfSome o P → IfSome o Q
some_weaker None P Q f h = tt
some_weaker (Some id) P Q f h = f id h

-- and where none was found
pub none_weaker : (o : Option TreeId) (P Q : Type 0) → (P → Q) → IfNone o P → IfNone o Q
none_weaker None P Q f h = f h
none_weaker (Some id) P Q f h = tt
