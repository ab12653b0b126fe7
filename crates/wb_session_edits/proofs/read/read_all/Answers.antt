use Rattle.wb_session_edits.proofs.ProgressLemmas.{begun}
use Rattle.wb_session_edits.proofs.read.read_all.Goals as goal

pub lines-init : goal.lines-init
lines-init c = begun c.args.text.now _ c.requires

pub returns-in-Err-clause-halted : goal.returns-in-Err-clause-halted
returns-in-Err-clause-halted c = c.in-Err.ensures.halted c.args.text.now c.lines.invariant
