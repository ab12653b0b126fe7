use Rattle.std.proofs.Common.{None, refl, sym, subst}
use Rattle.wb_eval.proofs.ReachedLemmas.{ready_child, child_given}
use Rattle.wb_eval.specs.Inner.Reached.{IsReady, IsGivenTree}
use Rattle.wb_values.proofs.CallerLemmas.{value_at-within}
use Rattle.wb_values.specs.Tree.{children_of}
use Rattle.wb_values.specs.ValuesIn.{tree_in}
use Rattle.wb_eval.proofs.machine.Machine.tree_below.Goals as goal

pub tree_at-tree-requires : goal.tree_at-tree-requires
tree_at-tree-requires c =
    let ready = subst (IsReady c.args.store.now c.args.self.now.memo c.args.site) c.in-Child.is c.requires in (ready.0, ready.1)

pub child_tree-requires-clause-there : goal.child_tree-requires-clause-there
child_tree-requires-clause-there c =
    (ready_child c.args.store.now c.args.self.now.memo c.args.site c.in-Child.k
    (subst (IsReady c.args.store.now c.args.self.now.memo c.args.site) c.in-Child.is c.requires) c.tree_at-tree.result
    c.tree_at-tree.ensures).0

pub child_tree-requires-clause-place : goal.child_tree-requires-clause-place
child_tree-requires-clause-place c =
    let (inside, child) =
    ready_child c.args.store.now c.args.self.now.memo c.args.site c.in-Child.k
    (subst (IsReady c.args.store.now c.args.self.now.memo c.args.site) c.in-Child.is c.requires) c.tree_at-tree.result
    c.tree_at-tree.ensures in
    value_at-within (children_of (tree_in c.args.store.now c.tree_at-tree.result.0)) c.in-Child.k _ child.1

pub returns-in-Child : goal.returns-in-Child
returns-in-Child c =
    let (inside, child) =
    ready_child c.args.store.now c.args.self.now.memo c.args.site c.in-Child.k
    (subst (IsReady c.args.store.now c.args.self.now.memo c.args.site) c.in-Child.is c.requires) c.tree_at-tree.result
    c.tree_at-tree.ensures in
    let e = c.child_tree.ensures in
    subst (λ step. IsGivenTree c.args.store.now c.args.self.now.memo c.args.site step c.child_tree.result) (sym c.in-Child.is)
    (child_given c.args.store.now c.args.self.now.memo c.args.site c.in-Child.k c.tree_at-tree.result c.tree_at-tree.ensures inside child
    c.child_tree.result e.some e.below e.none)

pub returns-in-Local : goal.returns-in-Local
returns-in-Local c =
    subst (λ step. IsGivenTree c.args.store.now c.args.self.now.memo c.args.site step None) (sym c.in-Local.is) refl

pub returns-in-Forward : goal.returns-in-Forward
returns-in-Forward c =
    subst (λ step. IsGivenTree c.args.store.now c.args.self.now.memo c.args.site step None) (sym c.in-Forward.is) refl
