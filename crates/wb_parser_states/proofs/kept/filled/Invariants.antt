use Rattle.std.proofs.Common.{◌≡◌, ℕ, Some}
use Rattle.std.specs.Prelude.{slice_get}
use Rattle.wb_parser_states.specs.declared.kept.Kept.{Kept}
use Rattle.wb_parser_states.proofs.kept.filled.Given as goal

abbrev pub invariant-places : goal.invariant-places
invariant-places l = (place : ℕ) (other : Kept) → slice_get l.places.items place ≡ Some other → other ≡ l.kept
