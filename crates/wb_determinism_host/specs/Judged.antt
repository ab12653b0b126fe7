-- A host that passes every test before the conflict, with what is found of it by then.
use Rattle.std.specs.Prelude.{◌≡◌}
use Rattle.wb_base.specs.Grammar.{GrammarView}
use Rattle.wb_grammar.specs.Facts.{FactsView, AreFacts}
use Rattle.wb_items.specs.Lookaheads.{LookaheadsView}
use Rattle.wb_items.specs.Kernels.{KernelsView}
use Rattle.wb_items.specs.LookaheadSets.{AreLookaheads}
use Rattle.wb_marking_holes.specs.Holes.{with_holes_of}
use Rattle.wb_syntax_resolved.specs.declared.resolved.ResolvedParts.{ResolvedParts}
use Rattle.wb_determinism_host.specs.Hosts.{IsSound}

-- preferences are acyclic and the grammar is reduced; and the facts are those of the grammar with holes. So that one has neither unit
-- cycles nor hidden left recursion
pub record AreFactsOfHost (r : ResolvedParts) (g holes : GrammarView) (facts : FactsView) : Type 0 where
  pub sound : IsSound r g
  pub holes_are : holes ≡ with_holes_of g r.extensible
  pub facts_are : AreFacts holes facts

-- preferences are acyclic and the grammar is reduced; and the facts, kernels and lookaheads are those of the grammar with holes. So that
-- one has neither unit cycles nor hidden left recursion
pub record IsReadyToJudge (r : ResolvedParts) (g holes : GrammarView) (facts : FactsView) (kernels : KernelsView)
    (lookaheads : LookaheadsView) : Type 0 where
  pub sound : IsSound r g
  pub holes_are : holes ≡ with_holes_of g r.extensible
  pub facts_are : AreFacts holes facts
  pub of_holes : kernels.grammar ≡ holes
  pub lookaheads_are : AreLookaheads kernels lookaheads
