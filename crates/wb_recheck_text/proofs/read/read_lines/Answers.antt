use Rattle.wb_recheck_text.proofs.read.read_lines.Goals as goal

pub returns-in-Err-clause-halted : goal.returns-in-Err-clause-halted
returns-in-Err-clause-halted c text head read = c.in-Err.ensures.halted text head (c.lines.invariant text head read)
