use Rattle.std.proofs.Common.{subst, sym}
use Rattle.wb_compose_kernels.specs.Inner.Lists.{IsListing}
use Rattle.wb_compose_kernels.proofs.kernels.with_lists.Goals as goal

pub by_lists-made-requires-clause-listed : goal.by_lists-made-requires-clause-listed
by_lists-made-requires-clause-listed c =
    let s = c.args.splice.now in
    let kernels = c.lists_of.new.kernels.items in
    let lists = c.in_ok-lists.lists in
    subst (λ z. IsListing s z c.deref.result.now c.deref-2.result.now) (sym c.deref-3.ensures.value)
    (subst (λ z. IsListing s kernels z c.deref-2.result.now) (sym c.deref.ensures.value)
    (subst (λ z. IsListing s kernels lists.host.items z) (sym c.deref-2.ensures.value) c.in_ok-lists.ensures))
