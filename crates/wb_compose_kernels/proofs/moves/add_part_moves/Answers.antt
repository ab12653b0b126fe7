use Rattle.std.proofs.Common.{◌≡◌, ◌<◌, arith, length, subst, ℕ}
use Rattle.wb_compose_kernels.specs.Inner.Moves.{Adds, IsPartMove}
use Rattle.wb_compose_kernels.proofs.AddLemmas.{adds_next, adds_start}
use Rattle.wb_compose_kernels.proofs.RowLemmas.{part_all}
use Rattle.wb_compose_kernels.specs.Inner.Counts.{new_count_at}
use Rattle.wb_compose_kernels.proofs.moves.add_part_moves.Goals as goal

pub parts-init : goal.parts-init
parts-init c = adds_start (IsPartMove c.args.splice.now c.args.taken.now.blocks.now c.args.taken.now.numbers.now
    c.args.taken.now.new.now c.args.taken.now.marks.now) c.args.moves.now.items

pub parts-preserved : goal.parts-preserved
parts-preserved c =
    let taken = c.args.taken.now in
    let host = taken.numbers.now in
    let new = taken.new.now in
    let e = c.parts.part in
    adds_next (IsPartMove c.args.splice.now taken.blocks.now host new taken.marks.now) e c.args.moves.now.items c.parts.moves.items
    c.add_new_moves.new.moves.items c.parts.invariant
    (part_all c.args.splice.now taken.blocks.now host new taken.marks.now e (new_count_at c.args.splice.now e) c.blocks_at.result
    c.numbers_at.result.now c.parts.moves.items c.add_new_moves.new.moves.items c.blocks_at.ensures c.numbers_at.ensures
    (c.requires.lists.each e c.numbers_at.result.now c.numbers_at.ensures) c.in_ok-add_new_moves.ensures)

pub returns : goal.returns
returns c =
    let taken = c.args.taken.now in
    let done : c.parts.part ≡ length c.args.splice.now.parts.now = omega arith in
    subst (λ n. Adds (λ m. (e : ℕ) × (e < n) × IsPartMove c.args.splice.now taken.blocks.now taken.numbers.now taken.new.now
    taken.marks.now e m) c.args.moves.now.items c.parts.moves.items) done c.parts.invariant
