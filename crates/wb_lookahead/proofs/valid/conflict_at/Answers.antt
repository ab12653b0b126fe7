use Rattle.wb_lookahead.proofs.ValidLemmas.{row_clear}
use Rattle.wb_lookahead.proofs.valid.conflict_at.Goals as goal

pub unreachable-requires : goal.unreachable-requires
unreachable-requires c = row_clear c.requires.kernels c.requires.state c.in-Ok.ensures.ok.actions c.requires.conflict
