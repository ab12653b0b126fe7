use Rattle.std.proofs.Common.{◌≡◌, ◌<◌, arith, subst, ℕ}
use Rattle.wb_compose_kernels.specs.Inner.Counts.{new_count_at}
use Rattle.wb_compose_kernels.specs.Inner.Moves.{Adds, IsNewMove}
use Rattle.wb_compose_kernels.proofs.AddLemmas.{adds_next, adds_start}
use Rattle.wb_compose_kernels.proofs.moves.add_new_moves.Goals as goal

pub places-init : goal.places-init
places-init c = adds_start (IsNewMove c.args.splice.now c.args.to.now.names c.args.to.now.host.now c.args.to.now.new.now
    c.args.to.now.marks.now c.args.part) c.args.moves.now.items

pub places-preserved : goal.places-preserved
places-preserved c = adds_next (IsNewMove c.args.splice.now c.args.to.now.names c.args.to.now.host.now c.args.to.now.new.now
    c.args.to.now.marks.now c.args.part) c.places.place c.args.moves.now.items c.places.moves.items c.add_new_row.new.moves.items
    c.places.invariant c.in_ok-add_new_row.ensures

pub returns : goal.returns
returns c =
    let end = c.new_count-place-end.ensures in
    let done : c.places.place ≡ new_count_at c.args.splice.now c.args.part = omega (arith, end) in
    subst (λ n. Adds (λ m. (i : ℕ) × (i < n) × IsNewMove c.args.splice.now c.args.to.now.names c.args.to.now.host.now
    c.args.to.now.new.now c.args.to.now.marks.now c.args.part i m) c.args.moves.now.items c.places.moves.items) done c.places.invariant
