-- A grammar that is fit for parsing is refused only when memory runs out.
use Rattle.std.proofs.Common.{ℕ, List}
use Rattle.wb_base.specs.Grammar.{GrammarView}
use Rattle.wb_certify.specs.DeterministicHosts.{IsFitForParsing}
use Rattle.wb_grammar.specs.Refusals.{IsTrueReason}
use Rattle.wb_grammar.specs.declared.refusal.Reason.{Reason}
use Rattle.wb_grammar.specs.declared.refusal.Reason.TheVariants as reason
use Rattle.wb_grammar_theory.specs.Cycles.{IsHiddenCycle, IsUnitCycle}
use Rattle.wb_grammar_theory.proofs.CycleLemmas.{first_element, hidden_cycle_above, unit_cycle_member}
use Rattle.wb_marking_holes.specs.Holes.{with_holes_of}
use Rattle.wb_marking_holes.proofs.LiftLemmas.{lifted_reduced}
use Rattle.wb_syntax_resolved.specs.declared.resolved.ResolvedParts.{ResolvedParts}
use Rattle.wb_recheck.specs.Inner.Fit.{IsFit}

-- a grammar that is fit with holes
pub fit_with_holes : (r : ResolvedParts) (g : GrammarView) → IsFitForParsing r g → IsFit (with_holes_of g r.extensible)
fit_with_holes r g fit = record {
  reduced = lifted_reduced g r.extensible fit.sound.reduced;
  no_unit_cycle = fit.no_unit_cycle;
  no_hidden_left_recursion = fit.no_hidden_left_recursion;
}

module _ (g : GrammarView) (is : IsFit g) where
  -- every nonterminal serves
  pub reduced_serves : (r : Reason) → IsTrueReason g r → ⊥
  reduced_serves (reason.Unreachable a) h = h.1 (is.reduced.reachable a h.0)
  reduced_serves (reason.Unproductive a) h = h.1 (is.reduced.productive a h.0)

  -- there is no unit cycle
  pub no_unit_cycle : (list : List ℕ) → IsUnitCycle g list → ⊥
  no_unit_cycle list cycle =
      let (a, at) = first_element list cycle.nonempty in is.no_unit_cycle a (unit_cycle_member g list cycle 0 a at)

  -- and no hidden left recursion
  pub no_hidden_cycle : (list : List ℕ) → IsHiddenCycle g list → ⊥
  no_hidden_cycle list cycle = is.no_hidden_left_recursion cycle.above (hidden_cycle_above g list cycle)
