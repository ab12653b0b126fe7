-- Kernels with their lookaheads and tables, as references to them.
use Rattle.std.specs.Prelude.{◌≡◌}
use Rattle.wb_items.specs.Kernels.{AreKernels}
use Rattle.wb_items.specs.LookaheadSets.{AreLookaheads}
use Rattle.wb_lookahead.specs.Tables.{AreTables}
use Rattle.wb_tests_unions.specs.declared.made.Made.{Made}

-- they are those of the grammar
pub record IsMade (x : Made) : Type 0 where
  pub grammar : x.kernels.now.grammar ≡ x.grammar.now
  pub kernels : AreKernels x.kernels.now
  pub lookaheads : AreLookaheads x.kernels.now x.lookaheads.now
  pub tables : AreTables x.kernels.now x.tables.now
