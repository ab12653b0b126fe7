use Rattle.std.proofs.Common.{◌≡◌, Some, sym, subst}
use Rattle.std.specs.Prelude.{slice_get}
use Rattle.wb_items.specs.KernelOrder.{LiesWithin}
use Rattle.wb_items.proofs.IndexLemmas.{search_none}
use Rattle.wb_determinism_kernels.specs.NewKernels.{IndexView}
use Rattle.wb_determinism_kernels.proofs.index.Index.find.Goals as goal

pub returns-in-Err-clause-none : goal.returns-in-Err-clause-none
returns-in-Err-clause-none c = λ s kernel at same.
    let place = c.in-Err.field-0 in
    search_none c.self.inside.kernels.items c.self.inside.order.items c.args.items.now place c.self.invariant.index
    (subst (λ kernels. LiesWithin kernels c.self.inside.order.items c.args.items.now place place) c.deref.ensures.value
    (subst (λ order. LiesWithin c.deref.result.now order c.args.items.now place place) c.deref-2.ensures.value c.in-Err.ensures.err))
    s kernel (subst (λ (f : IndexView). slice_get f.kernels s ≡ Some kernel) (sym c.self.view_is) at) same
