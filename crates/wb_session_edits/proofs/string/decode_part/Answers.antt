use Rattle.std.proofs.Common.{subst, sym}
use Rattle.wb_session_edits.specs.Inner.Strings.{HasDecoded}
use Rattle.wb_session_edits.proofs.BodyLemmas.{decoded_more, decoded_stop}
use Rattle.wb_session_edits.proofs.string.decode_part.Goals as goal

pub returns-in-Ok-push-clause-read : goal.returns-in-Ok-push-clause-read
returns-in-Ok-push-clause-read c whole read =
    subst (HasDecoded whole c.in-Ok.after.now) (sym c.in-Ok-push.ensures.ok)
    (decoded_more whole _ _ _ _ read c.in-Ok.ensures.read)

pub returns-in-Err-clause-halted : goal.returns-in-Err-clause-halted
returns-in-Err-clause-halted c whole read = decoded_stop whole _ _ _ read c.in-Err.ensures.stopped
