use Rattle.std.proofs.Common.{List, subst}
use Rattle.wb_flow.specs.declared.positions.Position.TheVariants.{Top}
use Rattle.wb_flow.specs.declared.positions.TreeAt.{TreeAt}
use Rattle.wb_flow.specs.Adding.{Adds}
use Rattle.wb_flow.specs.Inner.Positions.{IsTreeOf}
use Rattle.wb_flow.proofs.TreeLemmas.{all_trees}
use Rattle.wb_flow.proofs.positions.trees_of.Goals as goal

pub returns : goal.returns
returns c =
    all_trees c.args.production.now c.add_tree.new.trees.items c.add_children.new.trees.items c.add_locals.new.trees.items
    c.add_tree-2.new.trees.items
    (subst (λ (z : List TreeAt). Adds z c.add_tree.new.trees.items (IsTreeOf c.args.production.now Top)) c.new-trees.ensures.items
    c.in_ok-add_tree.ensures)
    c.in_ok-add_children.ensures c.in_ok-add_locals.ensures c.in_ok-add_tree-2.ensures
