use Rattle.std.proofs.Common.{◌≡◌, length, arith}
use Rattle.wb_compose_kernels.proofs.FoundLemmas.{found_hole, none_hole}
use Rattle.wb_compose_kernels.proofs.blocks.has_hole.Goals as goal

pub returns-then-is_hole : goal.returns-then-is_hole
returns-then-is_hole c =
    found_hole c.args.block c.args.items.now c.items.place c.production_at.result (omega arith) c.production_at.ensures
    (c.is_hole.ensures.0 c.if-is_hole.true)

pub returns : goal.returns
returns c =
    let done : c.items.place ≡ length c.args.items.now = omega arith in
    none_hole c.args.block c.args.items.now c.items.place done c.items.invariant
