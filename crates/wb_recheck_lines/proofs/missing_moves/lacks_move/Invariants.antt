use Rattle.std.proofs.Common.{◌≡◌, ◌<◌, ℕ, Some, Contains}
use Rattle.std.specs.Prelude.{slice_get}
use Rattle.wb_items.specs.declared.transitions.Move.{Move}
use Rattle.wb_recheck_lines.proofs.missing_moves.lacks_move.Given as goal

abbrev pub invariant-moves : goal.invariant-moves
invariant-moves l =
    (n : ℕ) (other : Move) → n < l.place → slice_get l.moves n ≡ Some other → Contains l.found.states other.state
