-- Why a host isn't deterministic: each reason with a true example, where no earlier one holds.
use Rattle.std.specs.Prelude.{◌<◌}
use Rattle.wb_base.specs.Different.{Differ}
use Rattle.wb_base.specs.Grammar.{GrammarView}
use Rattle.wb_determinism_contexts.specs.Conflicts.{IsConflictAt}
use Rattle.wb_determinism_contexts.specs.Considered.{IsClashAt, LexiconView}
use Rattle.wb_grammar.specs.Refusals.{IsTrueReason}
use Rattle.wb_grammar_theory.specs.Cycles.{HasNoUnitCycle, IsUnitCycle, IsHiddenCycle}
use Rattle.wb_grammar_theory.specs.Lookaheads.{HasNoConflict}
use Rattle.wb_graph.specs.Orders.{IsSimpleCycle}
use Rattle.wb_marking.specs.Refusals as M
use Rattle.wb_marking_holes.specs.Holes.{with_holes_of}
use Rattle.wb_syntax_resolved.specs.declared.resolved.ResolvedParts.{ResolvedParts}
use Rattle.wb_determinism_host.specs.declared.refusal.DeterminismRefusal.{DeterminismRefusal}
use Rattle.wb_determinism_host.specs.declared.refusal.DeterminismRefusal.TheVariants as d
use Rattle.wb_determinism_host.specs.Lexicons.{lexicon_of, preference_pairs}
use Rattle.wb_determinism_host.specs.Hosts.{AreAcyclic, IsSound, IsFitForParsing}

-- what is shown is an example of the first of these that holds of a specification with this grammar: preferences form a cycle; the grammar
-- isn't reduced; with holes it has a unit cycle, hidden left recursion, a conflict, or a clash of what is scanned, whose lesser terminal is
-- first. The other reasons are of extensions alone, and out of memory says nothing of it
abbrev pub IsRefusalBy : ResolvedParts → GrammarView → LexiconView → DeterminismRefusal → Type 0
IsRefusalBy r g lexicon (d.Markers _) = ⊥
IsRefusalBy r g lexicon (d.PreferenceCycle cycle) = IsSimpleCycle (preference_pairs r) cycle
IsRefusalBy r g lexicon (d.NotReduced reason) = AreAcyclic r × IsTrueReason g reason
IsRefusalBy r g lexicon (d.UnitCycle list) = IsSound r g × IsUnitCycle (with_holes_of g r.extensible) list × Differ list
IsRefusalBy r g lexicon (d.HiddenLeftRecursion list) =
    IsSound r g × HasNoUnitCycle (with_holes_of g r.extensible) × IsHiddenCycle (with_holes_of g r.extensible) list × Differ list
IsRefusalBy r g lexicon (d.Conflict prefix terminal first second) =
    IsFitForParsing r g × IsConflictAt (with_holes_of g r.extensible) prefix terminal first second
IsRefusalBy r g lexicon (d.Clash prefix left right text) =
    IsFitForParsing r g × HasNoConflict (with_holes_of g r.extensible)
    × IsClashAt (with_holes_of g r.extensible) lexicon prefix left right text × (left < right)
IsRefusalBy r g lexicon (d.Lookahead _ _ _) = ⊥
IsRefusalBy r g lexicon (d.Envelope _ _) = ⊥
IsRefusalBy r g lexicon (d.NoMemory _) = Unit {0}

-- so of a host with this grammar
abbrev pub IsHostRefusal : ResolvedParts → GrammarView → DeterminismRefusal → Type 0
IsHostRefusal r g refusal = IsRefusalBy r g (lexicon_of r g) refusal

-- the refusal is that memory ran out
abbrev pub IsNoMemory : DeterminismRefusal → Type 0
IsNoMemory (d.Markers refusal) = M.IsNoMemory refusal
IsNoMemory (d.PreferenceCycle _) = ⊥
IsNoMemory (d.NotReduced _) = ⊥
IsNoMemory (d.UnitCycle _) = ⊥
IsNoMemory (d.HiddenLeftRecursion _) = ⊥
IsNoMemory (d.Conflict _ _ _ _) = ⊥
IsNoMemory (d.Clash _ _ _ _) = ⊥
IsNoMemory (d.Lookahead _ _ _) = ⊥
IsNoMemory (d.Envelope _ _) = ⊥
IsNoMemory (d.NoMemory _) = Unit {0}

-- the reason is one of those before the conflict, or that memory ran out
abbrev pub IsBeforeConflict : DeterminismRefusal → Type 0
IsBeforeConflict (d.Markers _) = Unit {0}
IsBeforeConflict (d.PreferenceCycle _) = Unit {0}
IsBeforeConflict (d.NotReduced _) = Unit {0}
IsBeforeConflict (d.UnitCycle _) = Unit {0}
IsBeforeConflict (d.HiddenLeftRecursion _) = Unit {0}
IsBeforeConflict (d.Conflict _ _ _ _) = ⊥
IsBeforeConflict (d.Clash _ _ _ _) = ⊥
IsBeforeConflict (d.Lookahead _ _ _) = ⊥
IsBeforeConflict (d.Envelope _ _) = ⊥
IsBeforeConflict (d.NoMemory _) = Unit {0}
