use Rattle.std.proofs.Common.{◌≡◌, ℕ, subst, sym, arith}
use Rattle.wb_items.specs.Kernels.{count_of}
use Rattle.wb_determinism.specs.Inner.Index.{IsIndex}
use Rattle.wb_determinism.proofs.IndexLemmas.{index_none}
use Rattle.wb_determinism.proofs.host_index.host_index.Goals as goal

pub kernels-init : goal.kernels-init
kernels-init c = subst (IsIndex c.args.host.now 0) (sym c.in_ok-index.ensures) (index_none c.args.host.now c.args.count c.requires)

pub returns : goal.returns
returns c =
    let same : c.kernels.state ≡ count_of c.args.host.now =
    omega (arith, c.kernels-test.false, c.kernels.auto.state-end, c.count-state-end.ensures.count) in
    subst (λ (n : ℕ). IsIndex c.args.host.now n c.kernels.index.items) same c.kernels.invariant
