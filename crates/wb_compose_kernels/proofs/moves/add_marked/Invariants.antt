use Rattle.std.proofs.Common.{◌≡◌, ◌<◌, ℕ, Some}
use Rattle.std.specs.Prelude.{slice_get}
use Rattle.wb_base.specs.declared.symbol.Symbol.TheVariants.{Terminal}
use Rattle.wb_compose_kernels.specs.declared.marks.Mark.{Mark}
use Rattle.wb_compose_kernels.specs.Inner.Moves.{Adds}
use Rattle.wb_compose_kernels.proofs.moves.add_marked.Given as goal

abbrev pub invariant-marks : goal.invariant-marks
invariant-marks l = Adds (λ m. (j : ℕ) × (j < l.place) × ((mark : Mark) × (slice_get l.marks j ≡ Some mark) × (mark.hole ≡ l.hole) ×
    (m ≡ (l.from, Terminal mark.terminal, mark.number)))) l.initial.moves.items l.moves.items
