use Rattle.std.proofs.Common.{◌≡◌, length, arith}
use Rattle.wb_compose_kernels.proofs.FoundLemmas.{found_own, none_own}
use Rattle.wb_compose_kernels.proofs.blocks.has_own.Goals as goal

pub returns-then-is_own : goal.returns-then-is_own
returns-then-is_own c =
    found_own c.args.block c.args.items.now c.items.place c.production_at.result (omega arith) c.production_at.ensures
    (c.is_own.ensures.0 c.if-is_own.true)

pub returns : goal.returns
returns c =
    let done : c.items.place ≡ length c.args.items.now = omega arith in
    none_own c.args.block c.args.items.now c.items.place done c.items.invariant
