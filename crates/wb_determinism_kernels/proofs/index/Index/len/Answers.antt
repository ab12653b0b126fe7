use Rattle.std.proofs.Common.{arith}
use Rattle.wb_determinism_kernels.proofs.index.Index.len.Goals as goal

pub returns-clause-steps : goal.returns-clause-steps
returns-clause-steps c = rw (← c.self.view_is)
    (let e = c.self.invariant.len in omega (arith, e, c.len.ensures, c.self.inside.kernels.ok.0))
