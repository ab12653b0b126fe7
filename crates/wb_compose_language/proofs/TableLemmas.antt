-- A deterministic grammar is refused only when memory runs out.
use Rattle.std.proofs.Common.{ℕ, List}
use Rattle.wb_base.specs.Grammar.{GrammarView}
use Rattle.wb_determinism_contexts.specs.Parts.{ArePartsOf}
use Rattle.wb_determinism_contexts.specs.declared.parts.Conflict.{Conflict}
use Rattle.wb_determinism_contexts.specs.declared.parts.Parts.{Parts}
use Rattle.wb_determinism_contexts.specs.Conflicts.{IsConflictAt}
use Rattle.wb_determinism_contexts.proofs.ConflictLemmas.{shown_conflict}
use Rattle.wb_grammar.specs.Refusals.{IsTrueReason}
use Rattle.wb_grammar.specs.declared.refusal.Reason.{Reason}
use Rattle.wb_grammar.specs.declared.refusal.Reason.TheVariants as reason
use Rattle.wb_grammar_theory.specs.Cycles.{IsHiddenCycle, IsUnitCycle}
use Rattle.wb_grammar_theory.proofs.CycleLemmas.{first_element, hidden_cycle_above, unit_cycle_member}
use Rattle.wb_scan_theory.specs.Facts.{IsDeterministic}
use Rattle.wb_scan_theory.specs.Parts.{AreTablesOf}

module _ (g : GrammarView) (is : IsDeterministic g) where
  -- every nonterminal serves
  pub reduced_serves : (r : Reason) → IsTrueReason g r → ⊥
  reduced_serves (reason.Unreachable a) h = h.1 (is.reduced.reachable a h.0)
  reduced_serves (reason.Unproductive a) h = h.1 (is.reduced.productive a h.0)

  -- there is no unit cycle
  pub no_unit_cycle : (list : List ℕ) → IsUnitCycle g list → ⊥
  no_unit_cycle list cycle =
      let (a, at) = first_element list cycle.nonempty in is.no_unit_cycle a (unit_cycle_member g list cycle 0 a at)

  -- and no hidden left recursion
  pub no_hidden_cycle : (list : List ℕ) → IsHiddenCycle g list → ⊥
  no_hidden_cycle list cycle = is.no_hidden_left_recursion cycle.above (hidden_cycle_above g list cycle)

  -- and no conflict
  pub no_conflict : (conflict : Conflict) → IsConflictAt g conflict.prefix conflict.terminal conflict.first conflict.second → ⊥
  no_conflict conflict shown = is.no_conflict conflict.prefix conflict.terminal
      (shown_conflict g conflict.prefix conflict.terminal conflict.first conflict.second shown)

-- the tables are the grammar's
pub tables_are : (g : GrammarView) (parts : Parts) → ArePartsOf g parts → AreTablesOf g parts.tables
tables_are g parts are =
    record { kernels = parts.kernels; are_kernels = are.kernels; same = are.grammar; are_tables = are.tables }
