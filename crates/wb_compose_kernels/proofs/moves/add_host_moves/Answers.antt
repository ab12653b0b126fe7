use Rattle.std.proofs.Common.{◌≡◌, ◌<◌, arith, subst, ℕ}
use Rattle.wb_items.specs.Kernels.{count_of}
use Rattle.wb_compose_kernels.specs.Inner.Moves.{Adds, IsHostMove}
use Rattle.wb_compose_kernels.proofs.AddLemmas.{adds_next, adds_start}
use Rattle.wb_compose_kernels.proofs.moves.add_host_moves.Goals as goal

pub states-init : goal.states-init
states-init c = adds_start (IsHostMove c.args.splice.now c.args.taken.now.host c.args.taken.now.numbers.now
    c.args.taken.now.marks.now) c.args.moves.now.items

pub states-preserved : goal.states-preserved
states-preserved c = adds_next (IsHostMove c.args.splice.now c.args.taken.now.host c.args.taken.now.numbers.now
    c.args.taken.now.marks.now) c.states.state c.args.moves.now.items c.states.moves.items c.add_host_row.new.moves.items
    c.states.invariant c.in_ok-add_host_row.ensures

pub returns : goal.returns
returns c =
    let taken = c.args.taken.now in
    let end = c.count-state-end.ensures.count in
    let done : c.states.state ≡ count_of c.args.splice.now.kernels.now = omega (arith, end) in
    subst (λ n. Adds (λ m. (k : ℕ) × (k < n) × IsHostMove c.args.splice.now taken.host taken.numbers.now taken.marks.now k m)
    c.args.moves.now.items c.states.moves.items) done c.states.invariant
