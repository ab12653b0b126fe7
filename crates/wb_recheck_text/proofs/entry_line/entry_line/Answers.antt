use Rattle.wb_recheck_text.proofs.EntryLemmas.{entry_stopped_origin, entry_stopped_second}
use Rattle.wb_recheck_text.proofs.entry_line.entry_line.Goals as goal

pub returns-in-Err-pair-2-clause-stopped : goal.returns-in-Err-pair-2-clause-stopped
returns-in-Err-pair-2-clause-stopped c =
    entry_stopped_second _ _ _ _ _ c.in-Ok.ensures.read c.in-Ok-pair.ensures.read c.in-Err-pair-2.ensures.stopped

pub returns-in-Err-origin-clause-stopped : goal.returns-in-Err-origin-clause-stopped
returns-in-Err-origin-clause-stopped c =
    entry_stopped_origin _ _ _ _ _ _ _ c.in-Ok.ensures.read c.in-Ok-pair.ensures.read c.in-Ok-pair-2.ensures.read
    c.in-Err-origin.ensures.stopped
