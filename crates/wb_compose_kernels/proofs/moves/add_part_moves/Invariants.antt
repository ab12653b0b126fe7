use Rattle.std.proofs.Common.{◌<◌, ℕ}
use Rattle.wb_compose_kernels.specs.Inner.Moves.{Adds, IsPartMove}
use Rattle.wb_compose_kernels.proofs.moves.add_part_moves.Given as goal

abbrev pub invariant-parts : goal.invariant-parts
invariant-parts l = Adds (λ m. (e : ℕ) × (e < l.part) × IsPartMove l.splice l.taken.blocks.now l.taken.numbers.now
    l.taken.new.now l.taken.marks.now e m) l.initial.moves.items l.moves.items
