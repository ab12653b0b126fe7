use Rattle.wb_session_edits.proofs.LineLemmas.{line_feed_stopped}
use Rattle.wb_session_edits.proofs.line.ending.Goals as goal

pub returns-in-Err-word-clause-halted : goal.returns-in-Err-word-clause-halted
returns-in-Err-word-clause-halted c = line_feed_stopped c.args.text.now _ _ _ c.in-Ok.ensures.read c.in-Err-word.ensures.stopped
