-- Kernels as they are added, and the moves that lead to them.
use Rattle.std.specs.Prelude.{◌≡◌, ℕ, List, Some, slice_get}
use Rattle.wb_base.specs.declared.symbol.Symbol.{Symbol}
use Rattle.wb_grammar_theory.specs.declared.item.Item.{Item}
use Rattle.wb_items.specs.Index.{IndexView}

-- prefixes and kernels are where they were, with more after them
pub record Grows (old new : IndexView) : Type 0 where
  pub prefixes : (s : ℕ) (prefix : List Symbol) → slice_get old.prefixes s ≡ Some prefix → slice_get new.prefixes s ≡ Some prefix
  pub kernels : (s : ℕ) (kernel : List Item) → slice_get old.kernels s ≡ Some kernel → slice_get new.kernels s ≡ Some kernel
