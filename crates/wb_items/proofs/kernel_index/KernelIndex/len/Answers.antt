use Rattle.std.proofs.Common.{arith}
use Rattle.wb_items.proofs.IndexedLemmas.{goes_on, shown_len}
use Rattle.wb_items.proofs.kernel_index.KernelIndex.len.Goals as goal

pub returns-clause-prefixes : goal.returns-clause-prefixes
returns-clause-prefixes c = rw (← c.self.view_is)
    (let e = shown_len c.self.inside.steps.items c.self.inside.kernels.items c.self.invariant.back in omega
    (arith, e, c.len.ensures, c.self.inside.kernels.ok.0))

pub returns-clause-steps : goal.returns-clause-steps
returns-clause-steps c = rw (← c.self.view_is) (goes_on c.self.inside.steps.items c.self.inside.kernels.items c.self.invariant.back)
