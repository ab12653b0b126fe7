use Rattle.std.proofs.Common.{◌≡◌, ◌<◌, ℕ, Some}
use Rattle.std.specs.Prelude.{slice_get}
use Rattle.wb_grammar_theory.specs.declared.item.Item.{Item}
use Rattle.wb_determinism_kernels.specs.NewKernels.{BeginsWith}
use Rattle.wb_determinism_kernels.proofs.before_hole.opened_at.Given as goal

abbrev pub invariant-items : goal.invariant-items
invariant-items l = (p : ℕ) (item : Item) → p < l.place → slice_get l.items p ≡ Some item → ¬ BeginsWith l.own l.hole item
