-- The kernels, lookaheads and tables of a grammar, and why it has none.
use Rattle.std.specs.Prelude.{◌≡◌}
use Rattle.wb_base.specs.Grammar.{GrammarView}
use Rattle.wb_items.specs.Kernels.{AreKernels}
use Rattle.wb_items.specs.LookaheadSets.{AreLookaheads}
use Rattle.wb_lookahead.specs.Tables.{AreTables}
use Rattle.wb_determinism_contexts.specs.declared.parts.Parts.{Parts}
use Rattle.wb_determinism_contexts.specs.declared.parts.PartsRefusal.{PartsRefusal}
use Rattle.wb_determinism_contexts.specs.declared.parts.PartsRefusal.TheVariants as r
use Rattle.wb_determinism_contexts.specs.Conflicts.{IsConflictAt}

-- the kernels are those of the grammar's prefixes, with their lookaheads and tables; so no prefix has a conflict
pub record ArePartsOf (g : GrammarView) (parts : Parts) : Type 0 where
  pub grammar : parts.kernels.grammar ≡ g
  pub kernels : AreKernels parts.kernels
  pub lookaheads : AreLookaheads parts.kernels parts.lookaheads
  pub tables : AreTables parts.kernels parts.tables

-- what is shown is a conflict of the grammar. Out of memory says nothing of it
abbrev pub IsPartsRefusal : GrammarView → PartsRefusal → Type 0
IsPartsRefusal g (r.Conflict conflict) = IsConflictAt g conflict.prefix conflict.terminal conflict.first conflict.second
IsPartsRefusal g (r.NoMemory _) = Unit {0}
