-- Kernels as they are taken from lists, with places of moves that lead to them.
use Rattle.std.specs.Prelude.{◌≡◌, ◌↔◌, ℕ, suc, ◌<◌, List, length, Some, Contains, slice_get}
use Rattle.wb_base.specs.declared.symbol.Symbol.{Symbol}
use Rattle.wb_base.specs.Grammar.{GrammarView}
use Rattle.wb_grammar_theory.specs.declared.item.Item.{Item}
use Rattle.wb_grammar_theory.specs.Shape.{IsLive}
use Rattle.wb_grammar_theory.specs.Closure.{InClosure}
use Rattle.wb_recheck_theory.specs.KernelLists.{AreKernelsAndMoves}
use Rattle.wb_items.specs.Index.{IndexView}
use Rattle.wb_items.specs.Kernels.{AreInOrder}
use Rattle.wb_items.specs.Parts.{IsReached}
use Rattle.wb_items.specs.Table.{AreKernelsOf}

-- the kernels of the grammar with their moves, each in order, and each after the first with a move to it from an earlier one
pub record AreParts (g : GrammarView) (kernels : List (List Item)) (moves : List (ℕ × Symbol × ℕ)) : Type 0 where
  pub live : IsLive g
  pub lists : AreKernelsAndMoves g kernels moves
  pub in_order : (s : ℕ) (kernel : List Item) → slice_get kernels s ≡ Some kernel → AreInOrder kernel
  pub reached : (s : ℕ) → suc s < length kernels → IsReached moves (suc s)

-- the move at the place leads to the kernel from an earlier one
pub record Reaches (moves : List (ℕ × Symbol × ℕ)) (s place : ℕ) : Type 0 where
  pub from : ℕ
  pub symbol : Symbol
  pub at : slice_get moves place ≡ Some (from, symbol, s)
  pub before : from < s

-- for each kernel to which one of the first n moves leads from an earlier one, the place of a move that does
abbrev pub PlacesUpTo : List (ℕ × Symbol × ℕ) → List ℕ → ℕ → Type 0
PlacesUpTo moves places n = (s m place : ℕ) → m < n → Reaches moves s m → slice_get places s ≡ Some place → Reaches moves s place

-- the first n of the listed kernels are found
pub record FoundUpTo (g : GrammarView) (kernels : List (List Item)) (found : IndexView) (n : ℕ) : Type 0 where
  pub len : length found.kernels ≡ n
  pub same : (s : ℕ) (kernel : List Item) → slice_get found.kernels s ≡ Some kernel → slice_get kernels s ≡ Some kernel
  pub are : AreKernelsOf g found.prefixes found.kernels

-- the list has the items of the kernel's closure, in order
pub record IsClosureOf (g : GrammarView) (kernel closure : List Item) : Type 0 where
  pub exact : (item : Item) → Contains closure item ↔ InClosure g (Contains kernel) item
  pub in_order : AreInOrder closure

-- the closures of the first n kernels are there
pub record AreClosuresOf (g : GrammarView) (kernels closures : List (List Item)) (n : ℕ) : Type 0 where
  pub len : length closures ≡ n
  pub each : (s : ℕ) (kernel closure : List Item) → slice_get kernels s ≡ Some kernel → slice_get closures s ≡ Some closure →
      IsClosureOf g kernel closure
