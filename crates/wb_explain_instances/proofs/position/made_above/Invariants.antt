use Rattle.wb_explain_instances.proofs.position.made_above.Given as goal

abbrev pub decreases-up : goal.decreases-up
decreases-up l = l.at
