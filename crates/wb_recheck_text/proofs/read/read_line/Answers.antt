use Rattle.std.proofs.Common.{[], subst, sym}
use Rattle.wb_recheck_text.specs.Inner.Progress.{HasRead}
use Rattle.wb_recheck_text.proofs.ProgressLemmas.{line_halts, line_has_read}
use Rattle.wb_recheck_text.proofs.read.read_line.Goals as goal

pub returns-in-Ok-push-clause-read : goal.returns-in-Ok-push-clause-read
returns-in-Ok-push-clause-read c whole head read =
    subst (λ z. HasRead whole c.in-Ok.after.now head z []) (sym c.in-Ok-push.ensures.ok)
    (line_has_read whole _ _ head _ _ c.in-Ok.ensures.read read)

pub returns-in-Err-clause-halted : goal.returns-in-Err-clause-halted
returns-in-Err-clause-halted c whole head read = line_halts whole _ _ head _ c.requires c.in-Err.ensures.stopped read
