-- The kernels after symbols, as a loop over the runs of a list makes them.
use Rattle.std.specs.Prelude.{◌≡◌, ◌↔◌, ◌<◌, ◌≤◌, ℕ, List, Some, Contains, slice_get}
use Rattle.wb_grammar_theory.specs.declared.item.Item.{Item}
use Rattle.wb_items.specs.declared.advance.Advance.{Advance}
use Rattle.wb_items.specs.declared.moved.MovedKernel.{MovedKernel}
use Rattle.wb_items.specs.Inner.Advances.{HasAdvance, symbol_of}
use Rattle.wb_items.specs.Kernels.{AreInOrder}
use Rattle.wb_items.specs.MovedKernels.{AreInSymbolOrder}
use Rattle.wb_items.specs.Order.{SymbolPrecedes}

-- the kernel has exactly the items that are listed with its symbol, in order, and at least one
pub record IsRunKernel (list : List Advance) (moved : MovedKernel) : Type 0 where
  pub exact : (item : Item) → Contains moved.kernel item ↔ HasAdvance list moved.symbol item
  pub in_order : AreInOrder moved.kernel
  pub some : (item : Item) × Contains moved.kernel item

-- the kernels of the symbols at the first places are there, in the order of their symbols, and later places have later symbols
pub record MovedUpTo (list : List Advance) (moved : List MovedKernel) (n : ℕ) : Type 0 where
  pub each : (i : ℕ) (m : MovedKernel) → slice_get moved i ≡ Some m → IsRunKernel list m
  pub ordered : AreInSymbolOrder moved
  pub complete : (j : ℕ) (a : Advance) → j < n → slice_get list j ≡ Some a →
      (i : ℕ) × (m : MovedKernel) × (slice_get moved i ≡ Some m) × (m.symbol ≡ symbol_of a)
  pub earlier : (i j : ℕ) (m : MovedKernel) (a : Advance) → slice_get moved i ≡ Some m → n ≤ j → slice_get list j ≡ Some a →
      SymbolPrecedes m.symbol (symbol_of a)
