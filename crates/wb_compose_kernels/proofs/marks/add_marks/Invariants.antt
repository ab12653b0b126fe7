use Rattle.std.proofs.Common.{◌≡◌, ◌<◌, ◌++◌, ℕ, Some}
use Rattle.std.specs.Prelude.{slice_get}
use Rattle.wb_determinism_kernels.specs.declared.starts.Start.{Start}
use Rattle.wb_compose_kernels.specs.Inner.Moves.{Adds, IsMarkOf}
use Rattle.wb_compose_kernels.proofs.marks.add_marks.Given as goal

abbrev pub invariant-starts : goal.invariant-starts
invariant-starts l = Adds (λ mark. (j : ℕ) × (j < l.place) × ((start : Start) × (slice_get l.starts j ≡ Some start) ×
    IsMarkOf l.blocks (l.host ++ l.new) start mark)) l.initial.marks.items l.marks.items
