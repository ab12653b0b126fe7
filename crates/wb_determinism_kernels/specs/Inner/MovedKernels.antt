-- The kernels after the symbols before which a closure's items have their dots.
use Rattle.std.specs.Prelude.{◌≡◌, ◌↔◌, ◌<◌, ◌≤◌, ◌∷◌, ℕ, List, Some, Contains, slice_get}
use Rattle.wb_base.specs.declared.symbol.Symbol.{Symbol}
use Rattle.wb_base.specs.Grammar.{GrammarView}
use Rattle.wb_grammar_theory.specs.declared.item.Item.{Item}
use Rattle.wb_grammar_theory.specs.Items.{after_dot}
use Rattle.wb_items.specs.Moved.{IsMoved}
use Rattle.wb_items.specs.Kernels.{AreInOrder}
use Rattle.wb_items.specs.Order.{SymbolPrecedes}
use Rattle.wb_determinism_kernels.specs.declared.advance.Advance.{Advance}
use Rattle.wb_determinism_kernels.specs.declared.moved.MovedKernel.{MovedKernel}
use Rattle.wb_determinism_kernels.specs.Inner.Advances.{HasAdvance, symbol_of}

-- the symbols are in order
abbrev pub AreInSymbolOrder : List MovedKernel → Type 0
AreInSymbolOrder moved = (i j : ℕ) (a b : MovedKernel) → i < j → slice_get moved i ≡ Some a → slice_get moved j ≡ Some b →
    SymbolPrecedes a.symbol b.symbol

-- the kernel has exactly the items that are listed with its symbol, in order, and at least one
pub record IsRunKernel (list : List Advance) (moved : MovedKernel) : Type 0 where
  pub exact : (item : Item) → Contains moved.kernel item ↔ HasAdvance list moved.symbol item
  pub in_order : AreInOrder moved.kernel
  pub some : (item : Item) × Contains moved.kernel item

-- the kernels of the symbols at the first places are there, in the order of their symbols, and later places have later symbols
pub record MovedUpTo (list : List Advance) (moved : List MovedKernel) (n : ℕ) : Type 0 where
  pub each : (i : ℕ) (m : MovedKernel) → slice_get moved i ≡ Some m → IsRunKernel list m
  pub ordered : AreInSymbolOrder moved
  pub complete : (j : ℕ) (a : Advance) → j < n → slice_get list j ≡ Some a →
      (i : ℕ) × (m : MovedKernel) × (slice_get moved i ≡ Some m) × (m.symbol ≡ symbol_of a)
  pub earlier : (i j : ℕ) (m : MovedKernel) (a : Advance) → slice_get moved i ≡ Some m → n ≤ j → slice_get list j ≡ Some a →
      SymbolPrecedes m.symbol (symbol_of a)

-- the kernel has exactly the items that move over its symbol, in order, and at least one
pub record IsMovedKernel (g : GrammarView) (closure : List Item) (moved : MovedKernel) : Type 0 where
  pub exact : (item : Item) → Contains moved.kernel item ↔ IsMoved g closure moved.symbol item
  pub in_order : AreInOrder moved.kernel
  pub some : (item : Item) × Contains moved.kernel item

-- one kernel for each symbol after a dot, in the order of the symbols
pub record AreMovedKernels (g : GrammarView) (closure : List Item) (moved : List MovedKernel) : Type 0 where
  pub each : (i : ℕ) (m : MovedKernel) → slice_get moved i ≡ Some m → IsMovedKernel g closure m
  pub ordered : AreInSymbolOrder moved
  pub complete : (item : Item) (x : Symbol) (rest : List Symbol) → Contains closure item → after_dot g item ≡ x ∷ rest →
      (i : ℕ) × (m : MovedKernel) × (slice_get moved i ≡ Some m) × (m.symbol ≡ x)
