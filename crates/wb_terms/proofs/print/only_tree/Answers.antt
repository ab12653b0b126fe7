use Rattle.std.proofs.Common.{sym, ◌∙◌}
use Rattle.wb_values.specs.Tree.{children_of}
use Rattle.wb_values.specs.ValuesIn.{tree_in}
use Rattle.wb_terms.proofs.PendingLemmas.{only_child}
use Rattle.wb_terms.proofs.print.only_tree.Goals as goal

pub returns-clause-only : goal.returns-clause-only
returns-clause-only c =
    only_child c.args.store.now (children_of (tree_in c.args.store.now c.args.tree.0)) c.child_tree.result
    (sym c.arity.ensures ∙ c.if-arity-ne1.false) c.child_tree.ensures.some
