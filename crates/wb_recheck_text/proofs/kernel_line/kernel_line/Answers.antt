use Rattle.wb_recheck_text.proofs.LineLemmas.{line_stopped_symbol}
use Rattle.wb_recheck_text.proofs.kernel_line.kernel_line.Goals as goal

pub returns-in-Err-symbol-clause-stopped : goal.returns-in-Err-symbol-clause-stopped
returns-in-Err-symbol-clause-stopped c =
    line_stopped_symbol _ _ _ _ _ c.in-Ok.ensures.read c.in-Ok-number.ensures.read c.in-Err-symbol.ensures.stopped
