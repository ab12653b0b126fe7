use Rattle.std.proofs.Common.{◌≡◌, ◌<◌, ◌+◌, ◌-◌, List, Some, length, sym, ap, ◌∙◌, arith, subst, count_ones}
use Rattle.std.specs.Prelude.{slice_get}
use Rattle.std.proofs.lemmas.Option.{slice_get_within}
use Rattle.std.proofs.lemmas.Result.{IfOk-weaker}
use Rattle.wb_values.specs.ValuesIn.{value_in, IsIn}
use Rattle.wb_values.specs.declared.value.Value.{Value}
use Rattle.wb_values.specs.declared.node.Node.{Node}
use Rattle.wb_values.specs.InPlace.{node_at}
use Rattle.wb_values.specs.Inner.Begin.{begin}
use Rattle.wb_values.specs.Inner.Layouts.{IsPosition}
use Rattle.wb_values.proofs.Laid.{length-trees}
use Rattle.wb_values.proofs.ChildLemmas.{child-at, position-found}
use Rattle.wb_values.proofs.store.TreeStore.child.Goals as goal

pub child_position-requires-clause-tree : goal.child_position-requires-clause-tree
child_position-requires-clause-tree c = omega (
  arith,
  ap length c.self.view_is,
  length-trees c.self.inside.nodes.items c.self.inside.children,
  ap length
      c.as_slice.ensures.value,
  c.requires.there,
)

pub child_position-requires-clause-after : goal.child_position-requires-clause-after
child_position-requires-clause-after c =
    let at = child-at c.args.self.now c.self.inside.nodes.items c.self.inside.children c.args.tree.0 (c.arity.result - 1 - c.args.place) c.args.place
    c.self.invariant c.self.view_is c.requires.there (ap (λ n. n - 1 - c.args.place) c.arity.ensures) c.requires.place in
    let k = c.args.tree.0 in
    subst (λ (ns : List Node). c.arity.result - 1 - c.args.place < count_ones (node_at ns k).inner + ((node_at ns k).end - begin 0 ns k))
    (sym c.as_slice.ensures.value) at.inside

pub get-requires : goal.get-requires
get-requires c =
    let at = child-at c.args.self.now c.self.inside.nodes.items c.self.inside.children c.args.tree.0 (c.arity.result - 1 - c.args.place) c.args.place
    c.self.invariant c.self.view_is c.requires.there (ap (λ n. n - 1 - c.args.place) c.arity.ensures) c.requires.place in
    let e = subst (IsPosition c.self.inside.children at.stored) c.in-Cell.is (position-found c.self.inside.nodes.items c.as_slice.result.now c.self.inside.children c.args.tree.0
    (c.arity.result - 1 - c.args.place) at.stored c.child_position.result c.as_slice.ensures.value c.child_position.ensures at.ends at.there) in
    slice_get_within c.self.inside.children c.in-Cell.at at.stored e

pub returns-in-Tree-clause-value : goal.returns-in-Tree-clause-value
returns-in-Tree-clause-value c =
    let at = child-at c.args.self.now c.self.inside.nodes.items c.self.inside.children c.args.tree.0 (c.arity.result - 1 - c.args.place) c.args.place
    c.self.invariant c.self.view_is c.requires.there (ap (λ n. n - 1 - c.args.place) c.arity.ensures) c.requires.place in
    let e = subst (IsPosition c.self.inside.children at.stored) c.in-Tree.is (position-found c.self.inside.nodes.items c.as_slice.result.now c.self.inside.children c.args.tree.0
    (c.arity.result - 1 - c.args.place) at.stored c.child_position.result c.as_slice.ensures.value c.child_position.ensures at.ends at.there) in
    at.value ∙ ap (λ (v : Value). Some (value_in c.args.self.now v)) e

pub returns-in-Tree-clause-below : goal.returns-in-Tree-clause-below
returns-in-Tree-clause-below c =
    let at = child-at c.args.self.now c.self.inside.nodes.items c.self.inside.children c.args.tree.0 (c.arity.result - 1 - c.args.place) c.args.place
    c.self.invariant c.self.view_is c.requires.there (ap (λ n. n - 1 - c.args.place) c.arity.ensures) c.requires.place in
    let e = subst (IsPosition c.self.inside.children at.stored) c.in-Tree.is (position-found c.self.inside.nodes.items c.as_slice.result.now c.self.inside.children c.args.tree.0
    (c.arity.result - 1 - c.args.place) at.stored c.child_position.result c.as_slice.ensures.value c.child_position.ensures at.ends at.there) in
    subst (IsIn c.args.tree.0) e at.below

pub returns-in-Cell-clause-value : goal.returns-in-Cell-clause-value
returns-in-Cell-clause-value c =
    let at = child-at c.args.self.now c.self.inside.nodes.items c.self.inside.children c.args.tree.0 (c.arity.result - 1 - c.args.place) c.args.place
    c.self.invariant c.self.view_is c.requires.there (ap (λ n. n - 1 - c.args.place) c.arity.ensures) c.requires.place in
    let e = subst (IsPosition c.self.inside.children at.stored) c.in-Cell.is (position-found c.self.inside.nodes.items c.as_slice.result.now c.self.inside.children c.args.tree.0
    (c.arity.result - 1 - c.args.place) at.stored c.child_position.result c.as_slice.ensures.value c.child_position.ensures at.ends at.there) in
    let f = λ (made : Value) (g : slice_get c.self.inside.children c.in-Cell.at ≡ Some made).
    let i : Some at.stored ≡ Some made = sym e ∙ g in
    let h : at.stored ≡ made = cc in
    at.value ∙ ap (λ (v : Value). Some (value_in c.args.self.now v)) h in
    IfOk-weaker c.get.result _ _ f c.get.ensures

pub returns-in-Cell-clause-below : goal.returns-in-Cell-clause-below
returns-in-Cell-clause-below c =
    let at = child-at c.args.self.now c.self.inside.nodes.items c.self.inside.children c.args.tree.0 (c.arity.result - 1 - c.args.place) c.args.place
    c.self.invariant c.self.view_is c.requires.there (ap (λ n. n - 1 - c.args.place) c.arity.ensures) c.requires.place in
    let e = subst (IsPosition c.self.inside.children at.stored) c.in-Cell.is (position-found c.self.inside.nodes.items c.as_slice.result.now c.self.inside.children c.args.tree.0
    (c.arity.result - 1 - c.args.place) at.stored c.child_position.result c.as_slice.ensures.value c.child_position.ensures at.ends at.there) in
    let f = λ (made : Value) (g : slice_get c.self.inside.children c.in-Cell.at ≡ Some made).
    let i : Some at.stored ≡ Some made = sym e ∙ g in
    let h : at.stored ≡ made = cc in
    subst (IsIn c.args.tree.0) h at.below in
    IfOk-weaker c.get.result _ _ f c.get.ensures
