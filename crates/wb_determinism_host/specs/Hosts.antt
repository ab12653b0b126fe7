-- Hosts that are deterministic for all extensions that may come, and what is kept of them.
use Rattle.std.specs.Prelude.{◌≡◌, ℕ, List}
use Rattle.wb_base.specs.Grammar.{GrammarView}
use Rattle.wb_determinism_contexts.specs.Considered.{HasNoClashAt, LexiconView}
use Rattle.wb_grammar_theory.specs.Cycles.{HasNoUnitCycle, HasNoHiddenLeftRecursion}
use Rattle.wb_grammar_theory.specs.Lookaheads.{HasNoConflict}
use Rattle.wb_grammar_theory.specs.Shape.{IsReduced}
use Rattle.wb_graph.specs.Orders.{IsCycle}
use Rattle.wb_items.specs.Kernels.{AreKernels}
use Rattle.wb_items.specs.LookaheadSets.{AreLookaheads}
use Rattle.wb_marking_holes.specs.Holes.{with_holes_of}
use Rattle.wb_syntax_resolved.specs.declared.resolved.ResolvedParts.{ResolvedParts}
use Rattle.wb_determinism_host.specs.declared.parts.HostParts.{HostParts}
use Rattle.wb_determinism_host.specs.Lexicons.{lexicon_of, preference_pairs}

-- no preferences lead from a terminal to itself
abbrev pub AreAcyclic : ResolvedParts → Type 0
AreAcyclic r = (cycle : List ℕ) → ¬ IsCycle (preference_pairs r) cycle

-- preferences are acyclic and the grammar is reduced
pub record IsSound (r : ResolvedParts) (g : GrammarView) : Type 0 where
  pub acyclic : AreAcyclic r
  pub reduced : IsReduced g

-- besides, the grammar with holes has neither unit cycles nor hidden left recursion
pub record IsFitForParsing (r : ResolvedParts) (g : GrammarView) : Type 0 where
  pub sound : IsSound r g
  pub no_unit_cycle : HasNoUnitCycle (with_holes_of g r.extensible)
  pub no_hidden_left_recursion : HasNoHiddenLeftRecursion (with_holes_of g r.extensible)

-- deterministic by what is scanned: preferences are acyclic, the grammar is reduced, and with holes it has no unit cycle, no hidden left
-- recursion, no conflict, and at no prefix two terminals or layouts that match one text with no preference between them
pub record IsDeterministicBy (r : ResolvedParts) (g : GrammarView) (lexicon : LexiconView) : Type 0 where
  pub fit : IsFitForParsing r g
  pub no_conflict : HasNoConflict (with_holes_of g r.extensible)
  pub no_clash : HasNoClashAt (with_holes_of g r.extensible) lexicon

-- a host with this grammar is deterministic
abbrev pub IsDeterministicHost : ResolvedParts → GrammarView → Type 0
IsDeterministicHost r g = IsDeterministicBy r g (lexicon_of r g)

-- the parts are those of the grammar with holes
pub record AreHostParts (r : ResolvedParts) (g : GrammarView) (parts : HostParts) : Type 0 where
  pub grammar : parts.grammar ≡ with_holes_of g r.extensible
  pub of_grammar : parts.kernels.grammar ≡ parts.grammar
  pub kernels : AreKernels parts.kernels
  pub lookaheads : AreLookaheads parts.kernels parts.lookaheads
