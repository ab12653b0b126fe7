use Rattle.wb_session_edits.proofs.BodyLemmas.{string_read, tail_halts}
use Rattle.wb_session_edits.proofs.string.string.Goals as goal

pub returns-in-Ok-string_tail-clause-read : goal.returns-in-Ok-string_tail-clause-read
returns-in-Ok-string_tail-clause-read c =
    string_read c.args.text.now c.in-Ok.tail.now _ _ c.in-Ok.ensures.read c.in-Ok-string_tail.ensures.read

pub returns-in-Err-string_tail-clause-halted : goal.returns-in-Err-string_tail-clause-halted
returns-in-Err-string_tail-clause-halted c =
    tail_halts c.args.text.now c.in-Ok.tail.now _ c.in-Ok.ensures.read c.in-Err-string_tail.ensures.halted
