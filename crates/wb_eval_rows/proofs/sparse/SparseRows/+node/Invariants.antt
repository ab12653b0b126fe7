use Rattle.wb_eval_rows.proofs.sparse.SparseRows.+node.Given as goal

abbrev pub decreases-node : goal.decreases-node
decreases-node l = l.block
