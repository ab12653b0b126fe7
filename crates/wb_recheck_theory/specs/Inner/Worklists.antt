-- Lines and entries as they are listed: of those before a place, all that moves or follows is listed.
use Rattle.std.specs.Prelude.{ℕ, ◌<◌, ◌≤◌, List}
use Rattle.wb_base.specs.declared.symbol.Symbol.{Symbol}
use Rattle.wb_base.specs.Grammar.{GrammarView}
use Rattle.wb_recheck_theory.specs.declared.line.Line.{Line}
use Rattle.wb_recheck_theory.specs.Lines.{kernel_count, HasMove, AreGoodLines, IsMoveListed}

-- the lines are good, and the moves of the kernels before this number are listed
pub record AreLines (g : GrammarView) (lines : List Line) (reached : ℕ) : Type 0 where
  pub within : reached ≤ kernel_count lines
  pub good : AreGoodLines g lines
  pub closed : (k : ℕ) (x : Symbol) → k < reached → HasMove g lines k x → IsMoveListed g lines k x
