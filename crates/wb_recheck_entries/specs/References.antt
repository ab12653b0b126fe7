-- With what the entries of a certificate are compared.
use Rattle.std.specs.Prelude.{◌≡◌}
use Rattle.wb_grammar.specs.Facts.{AreFacts}
use Rattle.wb_items.specs.Kernels.{AreKernels}
use Rattle.wb_recheck_lines.specs.States.{AreStatesOf}
use Rattle.wb_recheck_theory.specs.Lines.{AreGoodLines}
use Rattle.wb_recheck_entries.specs.declared.reference.Reference.{Reference}

-- the facts and kernels are those of the grammar, the lines are good, and the numbers are those of the kernels for which they stand
pub record IsReference (r : Reference) : Type 0 where
  pub facts : AreFacts r.grammar.now r.facts.now
  pub of_grammar : r.kernels.now.grammar ≡ r.grammar.now
  pub kernels : AreKernels r.kernels.now
  pub good : AreGoodLines r.grammar.now r.lines.now
  pub states : AreStatesOf r.kernels.now r.lines.now r.found.now.states
