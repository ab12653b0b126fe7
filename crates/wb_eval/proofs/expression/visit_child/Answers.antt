use Rattle.std.proofs.Common.{length, arith}
use Rattle.std.proofs.lemmas.Result.{IfOk-weaker}
use Rattle.wb_eval.proofs.ReachedLemmas.{child_here, child_pushed}
use Rattle.wb_values.proofs.CallerLemmas.{value_at-within, is_in_more}
use Rattle.wb_values.specs.Tree.{children_of}
use Rattle.wb_values.specs.ValuesIn.{tree_in}
use Rattle.wb_eval.proofs.expression.visit_child.Goals as goal

pub tree_at-tree-requires : goal.tree_at-tree-requires
tree_at-tree-requires c = (c.requires.0, c.requires.1)

pub child-requires-clause-there : goal.child-requires-clause-there
child-requires-clause-there c =
    (child_here c.args.store.now c.args.machine.now c.args.site c.args.k c.requires c.tree_at-tree.result c.tree_at-tree.ensures).0

pub child-requires-clause-place : goal.child-requires-clause-place
child-requires-clause-place c =
    let (inside, child) =
    child_here c.args.store.now c.args.machine.now c.args.site c.args.k c.requires c.tree_at-tree.result c.tree_at-tree.ensures in
    value_at-within (children_of (tree_in c.args.store.now c.tree_at-tree.result.0)) c.args.k _ child.1

pub returns : goal.returns
returns c =
    let inside =
    (child_here c.args.store.now c.args.machine.now c.args.site c.args.k c.requires c.tree_at-tree.result c.tree_at-tree.ensures).0 in
    let value = c.in_ok-value.ensures in
    IfOk-weaker c.visit_value.result _ _
    (child_pushed c.args.store.now c.args.machine.now c.args.values.now.items c.visit_value.new.values.items c.args.site c.args.k
    c.tree_at-tree.result
    c.in_ok-value.value c.tree_at-tree.ensures value.value
    (is_in_more c.tree_at-tree.result.0 (length c.args.store.now) c.in_ok-value.value (omega (arith, inside)) value.below))
    c.visit_value.ensures
