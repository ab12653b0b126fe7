use Rattle.std.proofs.Common.{◌<◌, ℕ, suc, subst}
use Rattle.wb_items.specs.Kernels.{AreKernels, IsLedTo, KernelsView, count_of}
use Rattle.wb_items.proofs.KernelsLemmas.{led_to, whole}
use Rattle.wb_items.proofs.kernels.Kernels.count.Goals as goal

pub returns-clause-exact : goal.returns-clause-exact
returns-clause-exact c = subst AreKernels c.self.view_is
    (whole c.self.inside.grammar c.self.inside.found c.self.inside.closures.items c.self.inside.rows.items c.self.invariant)

pub returns-clause-reached : goal.returns-clause-reached
returns-clause-reached c = subst (λ (k : KernelsView). (s : ℕ) → suc s < count_of k → IsLedTo k (suc s)) c.self.view_is
    (led_to c.self.inside.grammar c.self.inside.found c.self.inside.closures.items c.self.inside.rows.items c.self.invariant
    c.len.ensures.steps)
