use Rattle.std.proofs.Common.{◌<◌, ℕ}
use Rattle.wb_compose_kernels.specs.Inner.Moves.{Adds, IsNewMove}
use Rattle.wb_compose_kernels.proofs.moves.add_new_moves.Given as goal

abbrev pub invariant-places : goal.invariant-places
invariant-places l = Adds (λ m. (i : ℕ) × (i < l.place) × IsNewMove l.splice l.to.names l.to.host.now l.to.new.now l.to.marks.now l.part
    i m)
    l.initial.moves.items l.moves.items
