-- The moves of new kernels as they are followed.
use Rattle.std.specs.Prelude.{◌≡◌, ◌+◌, ◌<◌, ◌≤◌, ◌++◌, ◌∷◌, [], ℕ, List, Some, length, slice_get}
use Rattle.wb_base.specs.declared.symbol.Symbol.{Symbol}
use Rattle.wb_base.specs.Grammar.{GrammarView}
use Rattle.wb_grammar_theory.specs.declared.item.Item.{Item}
use Rattle.wb_items.specs.declared.transitions.Move.{Move}
use Rattle.wb_items.specs.Moved.{IsKernelFor}
use Rattle.wb_items.specs.Kernels.{KernelsView, ListsItems, count_of}
use Rattle.wb_items.specs.Table.{IsRow, Leads}
use Rattle.wb_compose_theory.specs.Renamings.{Renaming}
use Rattle.wb_determinism_kernels.specs.declared.follow.Table.{Table}
use Rattle.wb_determinism_kernels.specs.declared.moved.MovedKernel.{MovedKernel}
use Rattle.wb_determinism_kernels.specs.NewKernels.{IndexView, prefixes_beside}
use Rattle.wb_determinism_kernels.specs.Inner.Growing.{AreFoundSoFar, Grows}

module _ (host : KernelsView) (k : GrammarView) (up : Renaming) where
  -- at the prefix of the new kernel at this place each is the kernel after its symbol
  abbrev pub AreKernelsAfter : IndexView → List MovedKernel → ℕ → Type 0
  AreKernelsAfter found moved place =
      (prefix : List Symbol) → slice_get (prefixes_beside up host found.steps) (count_of host + place) ≡ Some prefix → (i : ℕ)
      (m : MovedKernel) → slice_get moved i ≡ Some m → IsKernelFor k (prefix ++ m.symbol ∷ []) m.kernel

  -- a move for each of the first kernels, which leads where it says
  pub record RowUpTo (old new : IndexView) (moved : List MovedKernel) (place : ℕ) (row : List Move) (n : ℕ) : Type 0 where
    pub so_far : AreFoundSoFar host k up new
    pub grows : Grows host k up old new
    pub within : place < length old.kernels
    pub len : length row ≡ n
    pub over : (i : ℕ) (m : MovedKernel) (move : Move) → slice_get moved i ≡ Some m → slice_get row i ≡ Some move →
        move.symbol ≡ m.symbol
    pub sound : (i : ℕ) (move : Move) → slice_get row i ≡ Some move →
        Leads k (prefixes_beside up host new.steps) (count_of host + place) move.symbol move.state

  -- the row has the moves of the new kernel at this place, which has these items
  pub record IsRowAdded (old new : IndexView) (closure : List Item) (place : ℕ) (row : List Move) : Type 0 where
    pub so_far : AreFoundSoFar host k up new
    pub grows : Grows host k up old new
    pub is_row : IsRow k (prefixes_beside up host new.steps) closure (count_of host + place) row

  -- the first new kernels have been followed: their items and their rows of moves are there
  pub record AreFollowed (found : IndexView) (closures : List (List Item)) (rows : List (List Move)) : Type 0 where
    pub len : length rows ≡ length closures
    pub exact : (i : ℕ) (prefix : List Symbol) (closure : List Item) →
        slice_get (prefixes_beside up host found.steps) (count_of host + i) ≡ Some prefix → slice_get closures i ≡ Some closure →
        ListsItems k prefix closure
    pub moves : (i : ℕ) (closure : List Item) (row : List Move) → slice_get closures i ≡ Some closure → slice_get rows i ≡ Some row →
        IsRow k (prefixes_beside up host found.steps) closure (count_of host + i) row

  -- one new kernel more has been followed
  pub record FollowsMore (old new : Table) : Type 0 where
    pub so_far : AreFoundSoFar host k up new.found
    pub grows : Grows host k up old.found new.found
    pub followed : AreFollowed new.found new.closures.items new.rows.items
    pub within : length new.closures.items ≤ length new.found.kernels
    pub more : length new.closures.items ≡ length old.closures.items + 1
