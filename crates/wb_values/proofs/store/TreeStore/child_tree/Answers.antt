use Rattle.std.proofs.Common.{◌≡◌, ◌<◌, ◌+◌, ◌-◌, List, Some, length, sym, ap, ◌∙◌, arith, subst, count_ones}
use Rattle.std.specs.Prelude.{slice_get}
use Rattle.std.proofs.lemmas.Option.{slice_get_within}
use Rattle.wb_values.specs.Tree.{Tree, tree as subtree, children_of, value_at}
use Rattle.wb_values.specs.ValuesIn.{tree_in, value_in, IsIn}
use Rattle.wb_values.specs.declared.value.TreeId.{TreeId}
use Rattle.wb_values.specs.declared.value.Value.{Value}
use Rattle.wb_values.specs.declared.value.Value.TheVariants.{Tree as Stored}
use Rattle.wb_values.specs.declared.node.Node.{Node}
use Rattle.wb_values.specs.InPlace.{node_at}
use Rattle.wb_values.specs.Inner.Begin.{begin}
use Rattle.wb_values.specs.Inner.Layouts.{IsPosition}
use Rattle.wb_values.proofs.Laid.{length-trees}
use Rattle.wb_values.proofs.ChildLemmas.{child-at, position-found, stored_tree, some_weaker, none_weaker}
use Rattle.wb_values.proofs.store.TreeStore.child_tree.Goals as goal

pub child_position-requires-clause-tree : goal.child_position-requires-clause-tree
child_position-requires-clause-tree c = omega (
  arith,
  ap length c.self.view_is,
  length-trees c.self.inside.nodes.items c.self.inside.children,
  ap length
      c.as_slice.ensures.value,
  c.requires.there,
)

pub child_position-requires-clause-after : goal.child_position-requires-clause-after
child_position-requires-clause-after c =
    let at = child-at c.args.self.now c.self.inside.nodes.items c.self.inside.children c.args.tree.0 (c.arity.result - 1 - c.args.place) c.args.place
    c.self.invariant c.self.view_is c.requires.there (ap (λ n. n - 1 - c.args.place) c.arity.ensures) c.requires.place in
    let k = c.args.tree.0 in
    subst (λ (ns : List Node). c.arity.result - 1 - c.args.place < count_ones (node_at ns k).inner + ((node_at ns k).end - begin 0 ns k))
    (sym c.as_slice.ensures.value) at.inside

pub tree-requires : goal.tree-requires
tree-requires c =
    let at = child-at c.args.self.now c.self.inside.nodes.items c.self.inside.children c.args.tree.0 (c.arity.result - 1 - c.args.place) c.args.place
    c.self.invariant c.self.view_is c.requires.there (ap (λ n. n - 1 - c.args.place) c.arity.ensures) c.requires.place in
    let e = subst (IsPosition c.self.inside.children at.stored) c.in-Cell.is (position-found c.self.inside.nodes.items c.as_slice.result.now c.self.inside.children c.args.tree.0
    (c.arity.result - 1 - c.args.place) at.stored c.child_position.result c.as_slice.ensures.value c.child_position.ensures at.ends at.there) in
    slice_get_within c.self.inside.children c.in-Cell.at at.stored e

pub returns-in-Tree-clause-some : goal.returns-in-Tree-clause-some
returns-in-Tree-clause-some c =
    let at = child-at c.args.self.now c.self.inside.nodes.items c.self.inside.children c.args.tree.0 (c.arity.result - 1 - c.args.place) c.args.place
    c.self.invariant c.self.view_is c.requires.there (ap (λ n. n - 1 - c.args.place) c.arity.ensures) c.requires.place in
    let e = subst (IsPosition c.self.inside.children at.stored) c.in-Tree.is (position-found c.self.inside.nodes.items c.as_slice.result.now c.self.inside.children c.args.tree.0
    (c.arity.result - 1 - c.args.place) at.stored c.child_position.result c.as_slice.ensures.value c.child_position.ensures at.ends at.there) in
    at.value ∙ ap (λ (v : Value). Some (value_in c.args.self.now v)) e

pub returns-in-Tree-clause-below : goal.returns-in-Tree-clause-below
returns-in-Tree-clause-below c =
    let at = child-at c.args.self.now c.self.inside.nodes.items c.self.inside.children c.args.tree.0 (c.arity.result - 1 - c.args.place) c.args.place
    c.self.invariant c.self.view_is c.requires.there (ap (λ n. n - 1 - c.args.place) c.arity.ensures) c.requires.place in
    let e = subst (IsPosition c.self.inside.children at.stored) c.in-Tree.is (position-found c.self.inside.nodes.items c.as_slice.result.now c.self.inside.children c.args.tree.0
    (c.arity.result - 1 - c.args.place) at.stored c.child_position.result c.as_slice.ensures.value c.child_position.ensures at.ends at.there) in
    subst (IsIn c.args.tree.0) e at.below

pub returns-in-Cell-clause-some : goal.returns-in-Cell-clause-some
returns-in-Cell-clause-some c =
    let at = child-at c.args.self.now c.self.inside.nodes.items c.self.inside.children c.args.tree.0 (c.arity.result - 1 - c.args.place) c.args.place
    c.self.invariant c.self.view_is c.requires.there (ap (λ n. n - 1 - c.args.place) c.arity.ensures) c.requires.place in
    let e = subst (IsPosition c.self.inside.children at.stored) c.in-Cell.is (position-found c.self.inside.nodes.items c.as_slice.result.now c.self.inside.children c.args.tree.0
    (c.arity.result - 1 - c.args.place) at.stored c.child_position.result c.as_slice.ensures.value c.child_position.ensures at.ends at.there) in
    let f = λ (id : TreeId) (g : slice_get c.self.inside.children c.in-Cell.at ≡ Some (Stored id)).
    let i : Some at.stored ≡ Some (Stored id) = sym e ∙ g in
    let h : at.stored ≡ Stored id = cc in
    at.value ∙ ap (λ (v : Value). Some (value_in c.args.self.now v)) h in
    some_weaker c.tree.result _ _ f c.tree.ensures.some

pub returns-in-Cell-clause-below : goal.returns-in-Cell-clause-below
returns-in-Cell-clause-below c =
    let at = child-at c.args.self.now c.self.inside.nodes.items c.self.inside.children c.args.tree.0 (c.arity.result - 1 - c.args.place) c.args.place
    c.self.invariant c.self.view_is c.requires.there (ap (λ n. n - 1 - c.args.place) c.arity.ensures) c.requires.place in
    let e = subst (IsPosition c.self.inside.children at.stored) c.in-Cell.is (position-found c.self.inside.nodes.items c.as_slice.result.now c.self.inside.children c.args.tree.0
    (c.arity.result - 1 - c.args.place) at.stored c.child_position.result c.as_slice.ensures.value c.child_position.ensures at.ends at.there) in
    let f = λ (id : TreeId) (g : slice_get c.self.inside.children c.in-Cell.at ≡ Some (Stored id)).
    let i : Some at.stored ≡ Some (Stored id) = sym e ∙ g in
    let h : at.stored ≡ Stored id = cc in
    subst (IsIn c.args.tree.0) h at.below in
    some_weaker c.tree.result _ _ f c.tree.ensures.some

pub returns-in-Cell-clause-none : goal.returns-in-Cell-clause-none
returns-in-Cell-clause-none c =
    let at = child-at c.args.self.now c.self.inside.nodes.items c.self.inside.children c.args.tree.0 (c.arity.result - 1 - c.args.place) c.args.place
    c.self.invariant c.self.view_is c.requires.there (ap (λ n. n - 1 - c.args.place) c.arity.ensures) c.requires.place in
    let there = subst (IsPosition c.self.inside.children at.stored) c.in-Cell.is (position-found c.self.inside.nodes.items c.as_slice.result.now c.self.inside.children c.args.tree.0
    (c.arity.result - 1 - c.args.place) at.stored c.child_position.result c.as_slice.ensures.value c.child_position.ensures at.ends at.there) in
    let f = λ (h : (id : TreeId) → slice_get c.self.inside.children c.in-Cell.at ≡ Some (Stored id) → ⊥)
    (child : Tree) (e : value_at (children_of (tree_in c.args.self.now c.args.tree.0)) c.args.place ≡ Some (subtree child)).
    let g : Some (value_in c.args.self.now at.stored) ≡ Some (subtree child) = sym at.value ∙ e in
    let same : value_in c.args.self.now at.stored ≡ subtree child = cc in
    let found = stored_tree c.args.self.now at.stored child same in
    h found.0 (there ∙ ap (λ (v : Value). Some v) found.1) in
    none_weaker c.tree.result _ _ f c.tree.ensures.none
