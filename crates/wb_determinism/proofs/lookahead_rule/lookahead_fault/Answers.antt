use Rattle.std.proofs.Common.{arith}
use Rattle.std.proofs.Common.{below_more}
use Rattle.wb_determinism.proofs.KeepLemmas.{keeps_all}
use Rattle.wb_determinism.proofs.lookahead_rule.lookahead_fault.Goals as goal

pub kernels-preserved : goal.kernels-preserved
kernels-preserved c = below_more _ _ c.kernels.invariant c.in_default.ensures

pub returns : goal.returns
returns c =
    keeps_all c.args.context.now c.requires.context
    (λ s below. c.kernels.invariant s (omega (arith, below, c.kernels-test.false, c.requires.regions.len)))
