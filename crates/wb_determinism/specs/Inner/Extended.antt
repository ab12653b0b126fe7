-- A host beside an extended one, and the tests of the latter.
use Rattle.std.specs.Prelude.{◌≡◌, ◌+◌, ℕ, List, false, map}
use Rattle.wb_base.specs.declared.symbol.Symbol.{Symbol}
use Rattle.wb_determinism_contexts.specs.Considered.{LexiconView}
use Rattle.wb_determinism_host.specs.declared.refusal.DeterminismRefusal.{DeterminismRefusal}
use Rattle.wb_determinism_host.specs.declared.refusal.DeterminismRefusal.TheVariants as d
use Rattle.wb_determinism_host.specs.declared.refusal.EnvelopeFault.{EnvelopeFault}
use Rattle.wb_determinism_host.specs.declared.refusal.EnvelopeFault.TheVariants as f
use Rattle.wb_determinism_host.specs.HostGrammar.{HasGrammar}
use Rattle.wb_determinism_host.specs.Hosts.{AreHostParts, IsDeterministicBy}
use Rattle.wb_determinism_host.specs.Lexicons.{is_host_layout, preference_pairs}
use Rattle.wb_syntax_resolved.specs.declared.resolved.ResolvedParts.{ResolvedParts}
use Rattle.wb_syntax_resolved.specs.declared.terminal.Terminal.{Terminal}
use Rattle.wb_determinism.specs.declared.context.Context.{Context}
use Rattle.wb_determinism.specs.declared.extension.Extended.{Extended}
use Rattle.wb_determinism.specs.EnvelopeClash.{HasNoEnvelopeClash}
use Rattle.wb_determinism.specs.Inner.Keeps.{KeepsInEnvelope, HasNoEnvelopeConflict}
use Rattle.wb_determinism.specs.Extensions.{IsHostBeside, both_lexicon, both_numbers, extended_grammar}
use Rattle.wb_determinism.specs.Images.{stands_for, AreImages}
use Rattle.wb_determinism.specs.LookaheadRule.{IsLookaheadFault}
use Rattle.wb_determinism.specs.Inner.Clashes.{IsClashFault}
use Rattle.wb_determinism.specs.Inner.Shown.{IsInnerFault}
use Rattle.wb_determinism.specs.Inner.Contexts.{HasImage, IsContext, both_of, host_of}

-- what is scanned of so many terminals, and the host's layout
abbrev pub lexicon_for : ResolvedParts → ℕ → LexiconView
lexicon_for r scanned = record {
  expressions = map (λ (t : Terminal). t.pattern) r.terminals;
  scanned = scanned;
  layout = map is_host_layout r.terminals;
  own_layout = map (λ (t : Terminal). false) r.terminals;
  own_productions = (0, 0);
  preferences = preference_pairs r;
}

-- the parts are those of a host, and those of the specification, which passes all tests of a host
pub record IsExtended (x : Extended) : Type 0 where
  pub has : HasGrammar x.parts.now x.grammar.now
  pub host : IsHostBeside x.parts.now x.grammar.now x.host.now
  pub deterministic : IsDeterministicBy x.parts.now x.grammar.now (both_lexicon x.parts.now x.grammar.now x.host.now.grammar)
  pub both : AreHostParts x.parts.now x.grammar.now x.both.now

-- what is compared is that
pub record IsContextOf (x : Extended) (c : Context) : Type 0 where
  pub context : IsContext c
  pub host : host_of c ≡ x.host.now.grammar
  pub both : both_of c ≡ extended_grammar x.parts.now x.grammar.now x.host.now.grammar
  pub numbers_are : c.numbers.now ≡ both_numbers x.parts.now x.grammar.now x.host.now.grammar
  pub images : AreImages c.numbers.now (stands_for x.parts.now x.grammar.now) ((both_of c).terminals + 1) c.images.now

-- the envelope rule, where a table says what terminals stand for
pub record MeetsEnvelope (c : Context) (lexicon : LexiconView) : Type 0 where
  pub keeps : KeepsInEnvelope (host_of c) (both_of c) c.numbers.now (HasImage c.images.now)
  pub no_conflict : HasNoEnvelopeConflict (host_of c) (both_of c) c.numbers.now (HasImage c.images.now)
  pub clear : HasNoEnvelopeClash (host_of c) (both_of c) c.numbers.now lexicon

-- a fault with the envelope
abbrev pub IsFaultOf : Context → LexiconView → List Symbol → EnvelopeFault → Type 0
IsFaultOf c lexicon prefix (f.Lookahead item t) = IsInnerFault c prefix (f.Lookahead item t)
IsFaultOf c lexicon prefix (f.Conflict t first second) = IsInnerFault c prefix (f.Conflict t first second)
IsFaultOf c lexicon prefix (f.Clash left right text) = IsClashFault c lexicon prefix (f.Clash left right text)

-- a refusal that shows a lookahead at a host's kernel
abbrev pub IsLookaheadRefusal : Context → DeterminismRefusal → Type 0
IsLookaheadRefusal c (d.Markers _) = ⊥
IsLookaheadRefusal c (d.PreferenceCycle _) = ⊥
IsLookaheadRefusal c (d.NotReduced _) = ⊥
IsLookaheadRefusal c (d.UnitCycle _) = ⊥
IsLookaheadRefusal c (d.HiddenLeftRecursion _) = ⊥
IsLookaheadRefusal c (d.Conflict _ _ _ _) = ⊥
IsLookaheadRefusal c (d.Clash _ _ _ _) = ⊥
IsLookaheadRefusal c (d.Lookahead prefix item t) =
    IsLookaheadFault (host_of c) (both_of c) c.numbers.now (HasImage c.images.now) prefix item t
IsLookaheadRefusal c (d.Envelope _ _) = ⊥
IsLookaheadRefusal c (d.NoMemory _) = Unit {0}

-- a refusal that shows a fault with the envelope
abbrev pub IsEnvelopeRefusal : Context → LexiconView → DeterminismRefusal → Type 0
IsEnvelopeRefusal c lexicon (d.Markers _) = ⊥
IsEnvelopeRefusal c lexicon (d.PreferenceCycle _) = ⊥
IsEnvelopeRefusal c lexicon (d.NotReduced _) = ⊥
IsEnvelopeRefusal c lexicon (d.UnitCycle _) = ⊥
IsEnvelopeRefusal c lexicon (d.HiddenLeftRecursion _) = ⊥
IsEnvelopeRefusal c lexicon (d.Conflict _ _ _ _) = ⊥
IsEnvelopeRefusal c lexicon (d.Clash _ _ _ _) = ⊥
IsEnvelopeRefusal c lexicon (d.Lookahead _ _ _) = ⊥
IsEnvelopeRefusal c lexicon (d.Envelope prefix fault) = IsFaultOf c lexicon prefix fault
IsEnvelopeRefusal c lexicon (d.NoMemory _) = Unit {0}
