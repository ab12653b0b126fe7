use Rattle.wb_explain_instances.proofs.position.leaf_of.Given as goal

abbrev pub decreases-up : goal.decreases-up
decreases-up l = l.at
