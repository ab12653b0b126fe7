use Rattle.wb_recheck_text.proofs.HeadLemmas.{top_stopped_head}
use Rattle.wb_recheck_text.proofs.head_line.head.Goals as goal

pub returns-in-Err-head_line-clause-stopped : goal.returns-in-Err-head_line-clause-stopped
returns-in-Err-head_line-clause-stopped c = top_stopped_head _ _ _ c.in-Ok.ensures.read c.in-Err-head_line.ensures.stopped
