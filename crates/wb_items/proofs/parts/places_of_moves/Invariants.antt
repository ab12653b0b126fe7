use Rattle.std.proofs.Common.{◌≡◌, length}
use Rattle.wb_items.specs.Inner.Parts.{PlacesUpTo}
use Rattle.wb_items.proofs.parts.places_of_moves.Given as goal

abbrev pub invariant-moves : goal.invariant-moves
invariant-moves l = record { len : length l.places.items ≡ l.count; reach : PlacesUpTo l.moves l.places.items l.place }
