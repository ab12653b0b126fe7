use Rattle.std.proofs.Common.{subst, sym}
use Rattle.wb_session_edits.specs.Inner.Progress.{HasRead}
use Rattle.wb_session_edits.proofs.ProgressLemmas.{halts, line_has_read}
use Rattle.wb_session_edits.proofs.read.read_line.Goals as goal

pub returns-in-Ok-push-clause-read : goal.returns-in-Ok-push-clause-read
returns-in-Ok-push-clause-read c whole read =
    subst (HasRead whole c.in-Ok.after.now) (sym c.in-Ok-push.ensures.ok) (line_has_read whole _ _ _ _ c.in-Ok.ensures.read read)

pub returns-in-Err-clause-halted : goal.returns-in-Err-clause-halted
returns-in-Err-clause-halted c whole read = halts whole _ _ _ c.requires read c.in-Err.ensures.halted
