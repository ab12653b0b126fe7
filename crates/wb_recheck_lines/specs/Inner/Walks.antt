-- What is known of the lines before a place, and of the next.
use Rattle.std.specs.Prelude.{◌≡◌, ◌<◌, ℕ, List, [], ◌∷◌, ◌++◌, Option, Some, None, Contains, length, take, slice_get}
use Rattle.wb_base.specs.declared.symbol.Symbol.{Symbol}
use Rattle.wb_items.specs.Kernels.{KernelsView, LeadsTo, count_of, prefix_of}
use Rattle.wb_items.specs.declared.transitions.Move.{Move}
use Rattle.wb_recheck_theory.specs.declared.line.Line.{Line}
use Rattle.wb_recheck_theory.specs.Lines.{AreGoodLines, IsGoodLine}
use Rattle.wb_recheck_theory.specs.Listed.{AreNumbered}

-- the lines before the place are good, and the numbers are those of their kernels
pub record AreStatesUpTo (kernels : KernelsView) (lines : List Line) (states : List ℕ) (place : ℕ) : Type 0 where
  pub good : AreGoodLines kernels.grammar (take place lines)
  pub numbered : AreNumbered kernels.grammar (count_of kernels) (prefix_of kernels) (take place lines) states

-- what a good line has after the lines of these kernels: a number that isn't among theirs
pub record IsNewState (kernels : KernelsView) (lines : List Line) (states : List ℕ) (line : Line) (next : ℕ) : Type 0 where
  pub below : next < count_of kernels
  pub good : IsGoodLine kernels.grammar lines (length lines) line
  pub numbered : AreNumbered kernels.grammar (count_of kernels) (prefix_of kernels) (lines ++ line ∷ []) (states ++ next ∷ [])

-- after any good lines of these kernels the line is good and leads to this number, or it isn't good
abbrev pub IsNextLine : KernelsView → List ℕ → Line → Option ℕ → Type 0
IsNextLine kernels states line None = (lines : List Line) → AreGoodLines kernels.grammar lines →
    AreNumbered kernels.grammar (count_of kernels) (prefix_of kernels) lines states → ¬ IsGoodLine kernels.grammar lines (length lines) line
IsNextLine kernels states line (Some next) = (¬ Contains states next) × ((lines : List Line) → AreGoodLines kernels.grammar lines →
    AreNumbered kernels.grammar (count_of kernels) (prefix_of kernels) lines states → IsNewState kernels lines states line next)

-- one of the moves leads to a number that isn't among these
pub record HasMoveOut (moves : List Move) (states : List ℕ) : Type 0 where
  pub move : Move
  pub listed : Contains moves move
  pub out : ¬ Contains states move.state

-- each of the moves leads to one of the numbers
abbrev pub AreMovesIn : List Move → List ℕ → Type 0
AreMovesIn moves states = (place : ℕ) (move : Move) → slice_get moves place ≡ Some move → Contains states move.state

-- where symbols lead from the kernels before the place is among the numbers
abbrev pub AreListedUpTo : KernelsView → List ℕ → ℕ → Type 0
AreListedUpTo kernels states place = (k s : ℕ) (x : Symbol) (next : ℕ) → k < place → slice_get states k ≡ Some s →
    LeadsTo kernels s x next → Contains states next
