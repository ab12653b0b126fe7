use Rattle.std.proofs.Common.{◌<◌, sym, subst}
use Rattle.wb_items.specs.Kernels.{KernelsView, ListsKernel, count_of, prefix_of}
use Rattle.wb_items.proofs.KernelsLemmas.{kernel_is}
use Rattle.wb_items.proofs.kernels.Kernels.kernel.Goals as goal

pub returns-clause-exact : goal.returns-clause-exact
returns-clause-exact c =
    let within = subst (λ (k : KernelsView). c.args.state < count_of k) (sym c.self.view_is) c.requires in
    subst (λ (k : KernelsView). ListsKernel k.grammar (prefix_of k c.args.state) c.kernel.result.now) c.self.view_is
    (kernel_is c.self.invariant c.args.state c.kernel.result.now within c.kernel.ensures)
