-- Which is the first wrong line of a certificate, and which kernel lacks a move.
use Rattle.std.specs.Prelude.{◌≡◌, ◌<◌, ℕ, List, Some, slice_get}
use Rattle.wb_base.specs.declared.symbol.Symbol.{Symbol}
use Rattle.wb_base.specs.Grammar.{GrammarView}
use Rattle.wb_recheck_theory.specs.declared.line.Line.{Line}
use Rattle.wb_recheck_theory.specs.Lines.{kernel_count, HasMove, IsGoodLine, IsMoveListed}
use Rattle.wb_recheck_lines.specs.declared.refusal.LineRefusal.{LineRefusal}
use Rattle.wb_recheck_lines.specs.declared.refusal.LineRefusal.TheVariants.{Wrong, NoMemory}

-- the line at this place isn't good, and those before it are
pub record IsFirstWrongLine (g : GrammarView) (lines : List Line) (n : ℕ) : Type 0 where
  pub before : (m : ℕ) (line : Line) → m < n → slice_get lines m ≡ Some line → IsGoodLine g lines m line
  pub line : Line
  pub at : slice_get lines n ≡ Some line
  pub wrong : ¬ IsGoodLine g lines n line

-- where the lines are refused for a place, it is that of the first wrong line
abbrev pub IsLineRefusal : GrammarView → List Line → LineRefusal → Type 0
IsLineRefusal g lines (Wrong n) = IsFirstWrongLine g lines n
IsLineRefusal g lines (NoMemory error) = Unit {0}

-- the kernel has a move that isn't listed
pub record LacksMove (g : GrammarView) (lines : List Line) (k : ℕ) : Type 0 where
  pub within : k < kernel_count lines
  pub symbol : Symbol
  pub moves : HasMove g lines k symbol
  pub unlisted : ¬ IsMoveListed g lines k symbol
