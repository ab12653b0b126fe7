use Rattle.wb_recheck_text.proofs.ProgressLemmas.{err_then}
use Rattle.wb_recheck_text.proofs.read.read_lists.Goals as goal

pub returns-in-Ok-clause-halted : goal.returns-in-Ok-clause-halted
returns-in-Ok-clause-halted c =
    err_then c.read_entries.result c.read_entries.ensures.halted
    (λ halt h text head read. h text head _ (c.in-Ok.ensures.read text head read))
