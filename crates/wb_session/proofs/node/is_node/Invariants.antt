use Rattle.wb_values.specs.Tree.{children_of}
use Rattle.wb_values.specs.ValuesIn.{tree_in}
use Rattle.wb_session.specs.Inner.Nodes.{AreFirst}
use Rattle.wb_session.proofs.node.is_node.Given as goal

abbrev pub invariant-children : goal.invariant-children
invariant-children l = record {
  first : AreFirst l.store (children_of (tree_in l.store l.tree)) l.children l.place;
}
