-- Lines as they are written: kernels as they are first reached.
use Rattle.std.specs.Prelude.{◌≡◌, ℕ, ◌<◌, ◌≤◌, List, length, Some, Contains, slice_get}
use Rattle.wb_base.specs.declared.symbol.Symbol.{Symbol}
use Rattle.wb_items.specs.Kernels.{KernelsView, LeadsTo, count_of, prefix_of}
use Rattle.wb_items.specs.Order.{SymbolPrecedes}
use Rattle.wb_items.specs.declared.transitions.Move.{Move}
use Rattle.wb_recheck_lines.specs.States.{StatesView}
use Rattle.wb_recheck_theory.specs.declared.line.Line.{Line}
use Rattle.wb_recheck_theory.specs.Lines.{AreGoodLines}
use Rattle.wb_recheck_theory.specs.Listed.{AreNumbered}
use Rattle.wb_recheck_writer.specs.Order.{AreLinesInOrder}
use Rattle.wb_recheck_writer.specs.declared.lines.NumberedLines.{NumberedLines}

-- the lines are good and in order, the numbers are those of their kernels, and where symbols lead from the kernels before this place is
-- among the numbers
pub record AreLinesUpTo (kernels : KernelsView) (lines : List Line) (found : StatesView) (place : ℕ) : Type 0 where
  pub count : found.count ≡ count_of kernels
  pub within : place ≤ length found.states
  pub good : AreGoodLines kernels.grammar lines
  pub in_order : AreLinesInOrder kernels.grammar lines
  pub numbers : AreNumbered kernels.grammar (count_of kernels) (prefix_of kernels) lines found.states
  pub closed : (k s : ℕ) (x : Symbol) (next : ℕ) → k < place → slice_get found.states k ≡ Some s → LeadsTo kernels s x next →
      Contains found.states next

-- so far
abbrev pub AreNumberedUpTo : KernelsView → NumberedLines → ℕ → Type 0
AreNumberedUpTo kernels numbered place = AreLinesUpTo kernels numbered.lines.items numbered.states place

-- all kernels have their lines
abbrev pub AreAllLines : KernelsView → NumberedLines → Type 0
AreAllLines kernels numbered = AreNumberedUpTo kernels numbered (length numbered.states.states)

-- the move is one of the kernel at this place, and where earlier symbols lead from it is among the numbers
pub record IsNextMove (kernels : KernelsView) (states : List ℕ) (from : ℕ) (move : Move) : Type 0 where
  pub state : ℕ
  pub at : slice_get states from ≡ Some state
  pub leads : LeadsTo kernels state move.symbol move.state
  pub earlier : (x : Symbol) (next : ℕ) → LeadsTo kernels state x next → SymbolPrecedes x move.symbol → Contains states next

-- where the move leads is among the numbers, and those that were there are where they were
pub record AddsMove (kernels : KernelsView) (old new : NumberedLines) (from : ℕ) (move : Move) : Type 0 where
  pub up : AreNumberedUpTo kernels new from
  pub here : Contains new.states.states move.state
  pub keeps : (k s : ℕ) → slice_get old.states.states k ≡ Some s → slice_get new.states.states k ≡ Some s
