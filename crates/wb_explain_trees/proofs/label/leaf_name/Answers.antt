-- The name of the terminal at the place of the leaf.
use Rattle.wb_explain_trees.proofs.label.leaf_name.Goals as goal

pub returns : goal.returns
returns c = (c.in-Some.place, c.in-Some.ensures.some, c.in-Some-terminal_name.ensures)
