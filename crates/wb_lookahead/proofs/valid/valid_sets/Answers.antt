use Rattle.std.proofs.Common.{arith}
use Rattle.wb_lookahead.proofs.ValidLemmas.{all_clear}
use Rattle.wb_lookahead.proofs.valid.valid_sets.Goals as goal

pub returns-clause-no_conflict : goal.returns-clause-no_conflict
returns-clause-no_conflict c =
    all_clear c.count-state-end.ensures.exact
    (λ s lt. (c.kernels.invariant.each s (omega (arith, lt, c.kernels-test.false, c.count-state-end.ensures.count))).clear)
