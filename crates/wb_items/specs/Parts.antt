-- Kernels that are listed with the moves between them, each from earlier ones.
use Rattle.std.specs.Prelude.{◌≡◌, ℕ, ◌<◌, List, length, Some, Contains, slice_get}
use Rattle.wb_base.specs.declared.symbol.Symbol.{Symbol}
use Rattle.wb_grammar_theory.specs.declared.item.Item.{Item}
use Rattle.wb_items.specs.Kernels.{KernelsView, ListsKernel, count_of, prefix_of}

-- a move leads to the kernel from one that is listed before it
pub record IsReached (moves : List (ℕ × Symbol × ℕ)) (s : ℕ) : Type 0 where
  pub from : ℕ
  pub symbol : Symbol
  pub before : from < s
  pub listed : Contains moves (from, symbol, s)

-- the kernels are those of the lists, number by number
pub record AreListed (kernels : KernelsView) (lists : List (List Item)) : Type 0 where
  pub len : count_of kernels ≡ length lists
  pub each : (s : ℕ) (list : List Item) → slice_get lists s ≡ Some list → ListsKernel kernels.grammar (prefix_of kernels s) list
