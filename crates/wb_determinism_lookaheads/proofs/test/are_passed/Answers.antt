use Rattle.std.proofs.Common.{below_more, arith}
use Rattle.wb_determinism_lookaheads.proofs.test.are_passed.Goals as goal

pub kernels-preserved : goal.kernels-preserved
kernels-preserved c = below_more _ _ c.kernels.invariant (c.is_kernel_passed.ensures c.if-not-is_kernel_passed.false)

pub returns : goal.returns
returns c = λ _ i j lt. c.kernels.invariant i (omega (arith, lt, c.kernels-test.false, c.len-place-end.ensures)) j
