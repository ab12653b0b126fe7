-- From tests of numbered kernels to a deterministic extension, and to its refusals.
use Rattle.std.proofs.Common.{◌<◌, ◌+◌, ℕ, List, subst}
use Rattle.wb_base.specs.declared.symbol.Symbol.{Symbol}
use Rattle.wb_base.specs.Grammar.{GrammarView}
use Rattle.wb_determinism_contexts.specs.Considered.{LexiconView}
use Rattle.wb_determinism_host.specs.declared.refusal.DeterminismRefusal.{DeterminismRefusal}
use Rattle.wb_determinism_host.specs.declared.refusal.DeterminismRefusal.TheVariants as d
use Rattle.wb_determinism_host.specs.declared.refusal.EnvelopeFault.{EnvelopeFault}
use Rattle.wb_determinism_host.specs.declared.refusal.EnvelopeFault.TheVariants as f
use Rattle.wb_determinism_host.specs.Refusals.{IsRefusalBy}
use Rattle.wb_grammar_theory.specs.declared.item.Item.{Item}
use Rattle.wb_grammar_theory.specs.Lookaheads.{IsLookahead}
use Rattle.wb_syntax_resolved.specs.declared.resolved.ResolvedParts.{ResolvedParts}
use Rattle.wb_compose_theory.specs.Numbered.{KeepsKernelLookaheads, StaysInEnvelope}
use Rattle.wb_determinism.specs.declared.context.Context.{Context}
use Rattle.wb_determinism.specs.declared.extension.Extended.{Extended}
use Rattle.wb_determinism.specs.declared.numbers.Numbers.{Numbers}
use Rattle.wb_determinism.specs.EnvelopeClash.{HasNoEnvelopeClash, IsEnvelopeClashFault}
use Rattle.wb_determinism.specs.EnvelopeRule.{IsEnvelopeLookaheadFault, IsEnvelopeConflictFault}
use Rattle.wb_determinism.specs.Extensions.{IsDeterministicExtension, both_lexicon, both_numbers, extended_grammar}
use Rattle.wb_determinism.specs.Images.{StandsFor, stands_for}
use Rattle.wb_determinism.specs.LookaheadRule.{IsLookaheadFault}
use Rattle.wb_determinism.specs.Inner.Keeps.{KeepsHostLookaheads}
use Rattle.wb_determinism.specs.Numbers.{up_by}
use Rattle.wb_determinism.specs.Refusals.{IsEnvelopeFault, IsExtensionRefusal}
use Rattle.wb_determinism.specs.Inner.Clashes.{IsClashRefusal}
use Rattle.wb_determinism.specs.Inner.Shown.{IsInnerRefusal}
use Rattle.wb_determinism.specs.Inner.Contexts.{HasImage, both_of, host_of}
use Rattle.wb_determinism.specs.Inner.Extended.{IsContextOf, IsEnvelopeRefusal, IsExtended, IsFaultOf, IsLookaheadRefusal, MeetsEnvelope}
use Rattle.wb_determinism.specs.Inner.Extended.{lexicon_for}
use Rattle.wb_determinism.proofs.RuleLemmas.{conflict_fault, envelope_fault, keeps_kernels, kernel_fault, lookahead_bound, stays_in}

-- a refusal of the host with the extension is one of the extension
pub host_refusal : (r : ResolvedParts) (g host : GrammarView) (refusal : DeterminismRefusal)
    → IsRefusalBy r g (both_lexicon r g host) refusal → IsExtensionRefusal r g host refusal
host_refusal r g host (d.Markers m) is = is
host_refusal r g host (d.PreferenceCycle cycle) is = is
host_refusal r g host (d.NotReduced reason) is = is
host_refusal r g host (d.UnitCycle list) is = is
host_refusal r g host (d.HiddenLeftRecursion list) is = is
host_refusal r g host (d.Conflict p t a b) is = is
host_refusal r g host (d.Clash p a b t) is = is
host_refusal r g host (d.Lookahead p i t) is = absurd is
host_refusal r g host (d.Envelope p x) is = absurd is
host_refusal r g host (d.NoMemory e) is = tt

-- a refusal for what is found at numbered kernels shows a fault with the envelope
pub inner_refusal : (c : Context) (lexicon : LexiconView) (refusal : DeterminismRefusal) → IsInnerRefusal c refusal
    → IsEnvelopeRefusal c lexicon refusal
inner_refusal c lexicon (d.Markers m) is = is
inner_refusal c lexicon (d.PreferenceCycle cycle) is = is
inner_refusal c lexicon (d.NotReduced reason) is = is
inner_refusal c lexicon (d.UnitCycle list) is = is
inner_refusal c lexicon (d.HiddenLeftRecursion list) is = is
inner_refusal c lexicon (d.Conflict p t a b) is = is
inner_refusal c lexicon (d.Clash p a b t) is = is
inner_refusal c lexicon (d.Lookahead p i t) is = is
inner_refusal c lexicon (d.Envelope p (f.Lookahead i t)) is = is
inner_refusal c lexicon (d.Envelope p (f.Conflict t a b)) is = is
inner_refusal c lexicon (d.Envelope p (f.Clash a b t)) is = absurd is
inner_refusal c lexicon (d.NoMemory e) is = tt

-- so does one for a clash
pub clash_refusal : (c : Context) (lexicon : LexiconView) (refusal : DeterminismRefusal) → IsClashRefusal c lexicon refusal
    → IsEnvelopeRefusal c lexicon refusal
clash_refusal c lexicon (d.Markers m) is = is
clash_refusal c lexicon (d.PreferenceCycle cycle) is = is
clash_refusal c lexicon (d.NotReduced reason) is = is
clash_refusal c lexicon (d.UnitCycle list) is = is
clash_refusal c lexicon (d.HiddenLeftRecursion list) is = is
clash_refusal c lexicon (d.Conflict p t a b) is = is
clash_refusal c lexicon (d.Clash p a b t) is = is
clash_refusal c lexicon (d.Lookahead p i t) is = is
clash_refusal c lexicon (d.Envelope p (f.Lookahead i t)) is = absurd is
clash_refusal c lexicon (d.Envelope p (f.Conflict t a b)) is = absurd is
clash_refusal c lexicon (d.Envelope p (f.Clash a b t)) is = is
clash_refusal c lexicon (d.NoMemory e) is = tt

module _ (x : Extended) (c : Context) (is : IsExtended x) (of : IsContextOf x c) where
  -- what is said of the grammars that are compared is said of the host's and the extended one
  about : (P : GrammarView → GrammarView → Numbers → Type 0) → P (host_of c) (both_of c) c.numbers.now
      → P x.host.now.grammar (extended_grammar x.parts.now x.grammar.now x.host.now.grammar)
      (both_numbers x.parts.now x.grammar.now x.host.now.grammar)
  about P p =
      subst (P x.host.now.grammar (extended_grammar x.parts.now x.grammar.now x.host.now.grammar)) of.numbers_are
      (subst (λ (k : GrammarView). P x.host.now.grammar k c.numbers.now) of.both
      (subst (λ (g : GrammarView). P g (both_of c) c.numbers.now) of.host p))

  bound : (prefix : List Symbol) (item : Item) (t : ℕ) → IsLookahead (both_of c) prefix item t → t < (both_of c).terminals + 1
  bound = lookahead_bound c.both.now of.context.both c.both_lookaheads.now of.context.both_lookaheads

  -- a lookahead that is shown is one beyond the host's
  pub lookahead_refusal : (refusal : DeterminismRefusal) → IsLookaheadRefusal c refusal
      → IsExtensionRefusal x.parts.now x.grammar.now x.host.now.grammar refusal
  lookahead_refusal (d.Markers m) no_one = no_one
  lookahead_refusal (d.PreferenceCycle cycle) no_one = absurd no_one
  lookahead_refusal (d.NotReduced reason) no_one = absurd no_one
  lookahead_refusal (d.UnitCycle list) no_one = absurd no_one
  lookahead_refusal (d.HiddenLeftRecursion list) no_one = absurd no_one
  lookahead_refusal (d.Conflict p t a b) no_one = absurd no_one
  lookahead_refusal (d.Clash p a b t) no_one = absurd no_one
  lookahead_refusal (d.Lookahead prefix item t) shown = (
    is.deterministic,
    about (λ g k m. IsLookaheadFault g k m (StandsFor x.parts.now x.grammar.now m) prefix item t)
        (kernel_fault c.numbers.now (stands_for x.parts.now x.grammar.now) ((both_of c).terminals + 1) c.images.now of.images (host_of c)
        (both_of c)
        bound prefix item t shown),
  )
  lookahead_refusal (d.Envelope p y) no_one = absurd no_one
  lookahead_refusal (d.NoMemory e) shown = tt

  -- the lookahead rule holds
  pub keeps_lookaheads : KeepsHostLookaheads (host_of c) (both_of c) c.numbers.now (HasImage c.images.now)
      → KeepsKernelLookaheads x.host.now.grammar (extended_grammar x.parts.now x.grammar.now x.host.now.grammar)
      (up_by (both_numbers x.parts.now x.grammar.now x.host.now.grammar)) (stands_for x.parts.now x.grammar.now)
  keeps_lookaheads keeps =
      about (λ g k m. KeepsKernelLookaheads g k (up_by m) (stands_for x.parts.now x.grammar.now))
      (keeps_kernels c.numbers.now (stands_for x.parts.now x.grammar.now) ((both_of c).terminals + 1) c.images.now of.images (host_of c)
      (both_of c)
      keeps)

  -- a fault that is shown is one with the envelope
  shown_fault : (prefix : List Symbol) (fault : EnvelopeFault)
      → IsFaultOf c (lexicon_for x.parts.now c.numbers.now.own_terminals) prefix fault
      → IsEnvelopeFault x.parts.now x.grammar.now x.host.now.grammar prefix fault
  shown_fault prefix (f.Lookahead item t) shown =
      about (λ g k m. IsEnvelopeLookaheadFault g k m (StandsFor x.parts.now x.grammar.now m) prefix item t)
      (envelope_fault c.numbers.now (stands_for x.parts.now x.grammar.now) ((both_of c).terminals + 1) c.images.now of.images (host_of c)
      (both_of c)
      bound prefix item t shown)
  shown_fault prefix (f.Conflict t first second) shown =
      about (λ g k m. IsEnvelopeConflictFault g k m (StandsFor x.parts.now x.grammar.now m) prefix t first second)
      (conflict_fault c.numbers.now (stands_for x.parts.now x.grammar.now) ((both_of c).terminals + 1) c.images.now of.images (host_of c)
      (both_of c)
      prefix t first second shown)
  shown_fault prefix (f.Clash left right text) shown = (
    about (λ g k m. IsEnvelopeClashFault g k m (lexicon_for x.parts.now m.own_terminals) prefix left right text) shown.0,
    shown.1,
  )

  pub envelope_refusal : KeepsHostLookaheads (host_of c) (both_of c) c.numbers.now (HasImage c.images.now) → (refusal : DeterminismRefusal)
      → IsEnvelopeRefusal c (lexicon_for x.parts.now c.numbers.now.own_terminals) refusal
      → IsExtensionRefusal x.parts.now x.grammar.now x.host.now.grammar refusal
  envelope_refusal keeps (d.Markers m) no_one = no_one
  envelope_refusal keeps (d.PreferenceCycle cycle) no_one = absurd no_one
  envelope_refusal keeps (d.NotReduced reason) no_one = absurd no_one
  envelope_refusal keeps (d.UnitCycle list) no_one = absurd no_one
  envelope_refusal keeps (d.HiddenLeftRecursion list) no_one = absurd no_one
  envelope_refusal keeps (d.Conflict p t a b) no_one = absurd no_one
  envelope_refusal keeps (d.Clash p a b t) no_one = absurd no_one
  envelope_refusal keeps (d.Lookahead p i t) no_one = absurd no_one
  envelope_refusal keeps (d.Envelope prefix fault) shown = (is.deterministic, keeps_lookaheads keeps, shown_fault prefix fault shown)
  envelope_refusal keeps (d.NoMemory e) shown = tt

  -- an extension that passes all tests is deterministic
  pub deterministic : KeepsHostLookaheads (host_of c) (both_of c) c.numbers.now (HasImage c.images.now)
      → MeetsEnvelope c (lexicon_for x.parts.now c.numbers.now.own_terminals)
      → IsDeterministicExtension x.parts.now x.grammar.now x.host.now.grammar
  deterministic keeps meets = record {
    both = is.deterministic;
    lookaheads = keeps_lookaheads keeps;
    envelope = record {
      stays = about (λ g k m. StaysInEnvelope g k (up_by m) (stands_for x.parts.now x.grammar.now))
          (stays_in c.numbers.now (stands_for x.parts.now x.grammar.now) ((both_of c).terminals + 1) c.images.now of.images (host_of c)
          (both_of c)
          meets.keeps meets.no_conflict);
      clear = about (λ g k m. HasNoEnvelopeClash g k m (lexicon_for x.parts.now m.own_terminals)) meets.clear;
    };
  }
