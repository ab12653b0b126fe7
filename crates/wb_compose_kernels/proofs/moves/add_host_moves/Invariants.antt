use Rattle.std.proofs.Common.{◌<◌, ℕ}
use Rattle.wb_compose_kernels.specs.Inner.Moves.{Adds, IsHostMove}
use Rattle.wb_compose_kernels.proofs.moves.add_host_moves.Given as goal

abbrev pub invariant-states : goal.invariant-states
invariant-states l = Adds (λ m. (k : ℕ) × (k < l.state) × IsHostMove l.splice l.taken.host l.taken.numbers.now l.taken.marks.now k m)
    l.initial.moves.items l.moves.items
