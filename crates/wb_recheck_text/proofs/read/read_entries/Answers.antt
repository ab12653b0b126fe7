use Rattle.wb_recheck_text.proofs.ProgressLemmas.{read_stuck}
use Rattle.wb_recheck_text.proofs.read.read_entries.Goals as goal

pub returns-in-Err-clause-halted : goal.returns-in-Err-clause-halted
returns-in-Err-clause-halted c text head lines read =
    c.in-Err.ensures.halted text head lines (c.entries.invariant.0 text head lines read)

pub returns-in-Err-ended-clause-halted : goal.returns-in-Err-ended-clause-halted
returns-in-Err-ended-clause-halted c text head lines read =
    c.in-Err-ended.ensures.halted text
    (read_stuck text _ head lines _ c.in-Err-ended.ensures.some c.entries-test.ensures c.entries.invariant.1
    (c.entries.invariant.0 text head lines read))
