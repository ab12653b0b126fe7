-- A true refusal other than out of memory rules determinism out.
use Rattle.wb_base.specs.Grammar.{GrammarView}
use Rattle.wb_determinism_contexts.specs.Considered.{LexiconView}
use Rattle.wb_grammar.specs.declared.refusal.Reason.{Reason}
use Rattle.wb_grammar.specs.declared.refusal.Reason.TheVariants.{Unreachable, Unproductive}
use Rattle.wb_grammar.specs.Refusals.{IsTrueReason}
use Rattle.wb_grammar_theory.specs.Shape.{IsReduced}
use Rattle.wb_grammar_theory.proofs.CycleLemmas.{unit_cycle_member, hidden_cycle_above, first_element}
use Rattle.wb_marking_holes.specs.Holes.{with_holes_of}
use Rattle.wb_syntax_resolved.specs.declared.resolved.ResolvedParts.{ResolvedParts}
use Rattle.wb_determinism_host.specs.declared.refusal.DeterminismRefusal.{DeterminismRefusal}
use Rattle.wb_determinism_host.specs.declared.refusal.DeterminismRefusal.TheVariants as d
use Rattle.wb_determinism_host.specs.Hosts.{IsDeterministicBy}
use Rattle.wb_determinism_host.specs.Refusals.{IsBeforeConflict, IsNoMemory, IsRefusalBy}
use Rattle.wb_determinism_contexts.proofs.ConflictLemmas.{shown_conflict}

-- no grammar is reduced that isn't for a reason
pub not_reduced : (g : GrammarView) (reason : Reason) → IsTrueReason g reason → IsReduced g → ⊥
not_reduced g (Unreachable a) h is = h.1 (is.reachable a h.0)
not_reduced g (Unproductive a) h is = h.1 (is.productive a h.0)

pub excluded : (r : ResolvedParts) (g : GrammarView) (lexicon : LexiconView) (refusal : DeterminismRefusal)
    → IsRefusalBy r g lexicon refusal → IsDeterministicBy r g lexicon → IsNoMemory refusal
excluded r g lexicon (d.Markers m) h is = absurd h
excluded r g lexicon (d.PreferenceCycle cycle) h is = absurd (is.fit.sound.acyclic cycle h.cycle_is)
excluded r g lexicon (d.NotReduced reason) h is = absurd (not_reduced g reason h.1 is.fit.sound.reduced)
excluded r g lexicon (d.UnitCycle list) h is =
    (let plus = with_holes_of g r.extensible in
    let (a, at) = first_element list h.1.nonempty in
    absurd (is.fit.no_unit_cycle a (unit_cycle_member plus list h.1 0 a at)))
excluded r g lexicon (d.HiddenLeftRecursion list) h is =
    absurd (is.fit.no_hidden_left_recursion h.2.above (hidden_cycle_above (with_holes_of g r.extensible) list h.2))
excluded r g lexicon (d.Conflict prefix terminal first second) h is =
    absurd (is.no_conflict prefix terminal (shown_conflict (with_holes_of g r.extensible) prefix terminal first second h.1))
excluded r g lexicon (d.Clash prefix left right text) h is = absurd (is.no_clash prefix left right text h.2)
excluded r g lexicon (d.Lookahead p i t) h is = absurd h
excluded r g lexicon (d.Envelope p f) h is = absurd h
excluded r g lexicon (d.NoMemory e) h is = tt

-- a reason before the conflict doesn't depend on what is scanned
pub before_clash : (r : ResolvedParts) (g : GrammarView) (one other : LexiconView) (refusal : DeterminismRefusal)
    → IsBeforeConflict refusal → IsRefusalBy r g one refusal → IsRefusalBy r g other refusal
before_clash r g one other (d.Markers m) early is = is
before_clash r g one other (d.PreferenceCycle cycle) early is = is
before_clash r g one other (d.NotReduced reason) early is = is
before_clash r g one other (d.UnitCycle list) early is = is
before_clash r g one other (d.HiddenLeftRecursion list) early is = is
before_clash r g one other (d.Conflict prefix terminal first second) early is = absurd early
before_clash r g one other (d.Clash prefix left right text) early is = absurd early
before_clash r g one other (d.Lookahead prefix item t) early is = absurd early
before_clash r g one other (d.Envelope prefix fault) early is = absurd early
before_clash r g one other (d.NoMemory error) early is = tt
