-- Kernels that are listed one after another, with their moves.
use Rattle.std.specs.Prelude.{◌≡◌, ◌<◌, ◌↔◌, ◌⊎◌, ℕ, List, Some, Contains, length, slice_get}
use Rattle.wb_base.specs.declared.symbol.Symbol.{Symbol}
use Rattle.wb_grammar_theory.specs.declared.item.Item.{Item}
use Rattle.wb_items.specs.declared.transitions.Move.{Move}
use Rattle.wb_items.specs.Kernels.{AreInOrder, KernelsView, LeadsTo, ListsKernel, prefix_of}

-- the lists are the first kernels, in order
pub record AreListsUpTo (kernels : KernelsView) (lists : List (List Item)) (n : ℕ) : Type 0 where
  pub len : length lists ≡ n
  pub each : (s : ℕ) (list : List Item) → slice_get lists s ≡ Some list → ListsKernel kernels.grammar (prefix_of kernels s) list
  pub in_order : (s : ℕ) (list : List Item) → slice_get lists s ≡ Some list → AreInOrder list

-- the moves are exactly those of the first kernels
abbrev pub AreMovesUpTo : KernelsView → List (ℕ × Symbol × ℕ) → ℕ → Type 0
AreMovesUpTo kernels moves n =
    (s : ℕ) (x : Symbol) (next : ℕ) → Contains moves (s, x, next) ↔ ((s < n) × LeadsTo kernels s x next)

-- the first moves of a row, as moves of the kernel
pub record IsOfRow (s : ℕ) (row : List Move) (n : ℕ) (m : ℕ × Symbol × ℕ) : Type 0 where
  pub place : ℕ
  pub below : place < n
  pub move : Move
  pub at : slice_get row place ≡ Some move
  pub is : m ≡ (s, move.symbol, move.state)

-- these were added, and nothing else
pub record AddsRow (s : ℕ) (row : List Move) (n : ℕ) (old new : List (ℕ × Symbol × ℕ)) : Type 0 where
  pub sound : (m : ℕ × Symbol × ℕ) → Contains new m → Contains old m ⊎ IsOfRow s row n m
  pub keeps : (m : ℕ × Symbol × ℕ) → Contains old m → Contains new m
  pub complete : (m : ℕ × Symbol × ℕ) → IsOfRow s row n m → Contains new m
