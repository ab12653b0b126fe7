use Rattle.std.proofs.Common.{◌≡◌, ◌<◌, ℕ, Some}
use Rattle.std.specs.Prelude.{slice_get}
use Rattle.wb_grammar_theory.specs.declared.item.Item.{Item}
use Rattle.wb_compose_kernels.specs.Inner.Blocks.{IsHoleBy}
use Rattle.wb_compose_kernels.proofs.blocks.has_hole.Given as goal

abbrev pub invariant-items : goal.invariant-items
invariant-items l = (j : ℕ) (item : Item) → j < l.place → slice_get l.items j ≡ Some item → ¬ IsHoleBy l.block item.production
