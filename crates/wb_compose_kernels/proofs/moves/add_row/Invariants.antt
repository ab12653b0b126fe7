use Rattle.std.proofs.Common.{◌≡◌, ◌<◌, ◌++◌, ℕ, Some}
use Rattle.std.specs.Prelude.{slice_get}
use Rattle.wb_items.specs.declared.transitions.Move.{Move}
use Rattle.wb_compose_kernels.specs.Inner.Moves.{Adds, IsMoveOf}
use Rattle.wb_compose_kernels.proofs.moves.add_row.Given as goal

abbrev pub invariant-moves : goal.invariant-moves
invariant-moves l = Adds (λ m. (j : ℕ) × (j < l.place) × ((move : Move) × (slice_get l.row j ≡ Some move) ×
    IsMoveOf l.to.names (l.to.host.now ++ l.to.new.now) l.to.marks.now l.from move m)) l.initial.moves.items l.moves.items
