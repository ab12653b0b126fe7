use Rattle.std.proofs.Common.{◌≡◌, ◌<◌, ℕ, Some}
use Rattle.std.specs.Prelude.{slice_get}
use Rattle.wb_determinism_kernels.specs.declared.starts.Start.{Start}
use Rattle.wb_compose_kernels.specs.Inner.Images.{IsMarkerOf}
use Rattle.wb_compose_kernels.specs.Inner.Moves.{Adds}
use Rattle.wb_compose_kernels.proofs.markers.add_markers.Given as goal

abbrev pub invariant-starts : goal.invariant-starts
invariant-starts l = Adds (λ marker. (j : ℕ) × (j < l.place) × ((start : Start) × (slice_get l.starts j ≡ Some start) ×
    IsMarkerOf l.blocks.terminals start marker)) l.initial.markers.items l.markers.items
