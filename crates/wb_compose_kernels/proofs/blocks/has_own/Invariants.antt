use Rattle.std.proofs.Common.{◌≡◌, ◌<◌, ℕ, Some}
use Rattle.std.specs.Prelude.{slice_get}
use Rattle.wb_grammar_theory.specs.declared.item.Item.{Item}
use Rattle.wb_compose_kernels.specs.Inner.Blocks.{IsOwnBy}
use Rattle.wb_compose_kernels.proofs.blocks.has_own.Given as goal

abbrev pub invariant-items : goal.invariant-items
invariant-items l = (j : ℕ) (item : Item) → j < l.place → slice_get l.items j ≡ Some item → ¬ IsOwnBy l.block item.production
