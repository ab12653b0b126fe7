use Rattle.wb_eval_rows.proofs.sparse.SparseRows.+reach.Given as goal

abbrev pub decreases-reach : goal.decreases-reach
decreases-reach l = l.block
