use Rattle.std.proofs.Common.{◌<◌, ℕ}
use Rattle.wb_determinism.specs.Inner.Contexts.{KeepsKernel}
use Rattle.wb_determinism.proofs.lookahead_rule.lookahead_fault.Given as goal

abbrev pub invariant-kernels : goal.invariant-kernels
invariant-kernels l = (s : ℕ) → s < l.state → KeepsKernel l.context s
