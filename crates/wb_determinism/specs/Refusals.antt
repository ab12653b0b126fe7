-- Why an extension isn't deterministic beside its host: each reason with a true example, where no earlier one holds.
use Rattle.std.specs.Prelude.{◌<◌, List}
use Rattle.wb_base.specs.declared.symbol.Symbol.{Symbol}
use Rattle.wb_base.specs.Grammar.{GrammarView}
use Rattle.wb_determinism_host.specs.declared.refusal.DeterminismRefusal.{DeterminismRefusal}
use Rattle.wb_determinism_host.specs.declared.refusal.DeterminismRefusal.TheVariants as d
use Rattle.wb_determinism_host.specs.declared.refusal.EnvelopeFault.{EnvelopeFault}
use Rattle.wb_determinism_host.specs.declared.refusal.EnvelopeFault.TheVariants as f
use Rattle.wb_determinism_host.specs.Hosts.{IsDeterministicBy}
use Rattle.wb_determinism_host.specs.Refusals.{IsRefusalBy}
use Rattle.wb_compose_theory.specs.Numbered.{KeepsKernelLookaheads}
use Rattle.wb_syntax_resolved.specs.declared.resolved.ResolvedParts.{ResolvedParts}
use Rattle.wb_determinism.specs.EnvelopeClash.{IsEnvelopeClashFault}
use Rattle.wb_determinism.specs.EnvelopeRule.{IsEnvelopeLookaheadFault, IsEnvelopeConflictFault}
use Rattle.wb_determinism.specs.Extensions.{both_lexicon, both_numbers, extended_grammar, host_lexicon}
use Rattle.wb_determinism.specs.Images.{StandsFor, stands_for}
use Rattle.wb_determinism.specs.LookaheadRule.{IsLookaheadFault}
use Rattle.wb_determinism.specs.Numbers.{up_by}

module _ (r : ResolvedParts) (g host : GrammarView) where
  -- what is shown is a lookahead beyond the envelope, a conflict or a clash, whose lesser terminal is first
  abbrev pub IsEnvelopeFault : List Symbol → EnvelopeFault → Type 0
  IsEnvelopeFault prefix (f.Lookahead item t) =
      IsEnvelopeLookaheadFault host (extended_grammar r g host) (both_numbers r g host)
      (StandsFor r g (both_numbers r g host)) prefix item t
  IsEnvelopeFault prefix (f.Conflict t first second) =
      IsEnvelopeConflictFault host (extended_grammar r g host) (both_numbers r g host)
      (StandsFor r g (both_numbers r g host)) prefix t first second
  IsEnvelopeFault prefix (f.Clash left right text) =
      IsEnvelopeClashFault host (extended_grammar r g host) (both_numbers r g host) (host_lexicon r g host) prefix left right text
      × (left < right)

  -- what is shown is an example of the first of these that holds of the specification of a host with an extension: a reason for which it
  -- wouldn't do as a host, with the extension's layout considered where a kernel holds an item of one of its productions; a lookahead that the extension adds at a kernel of the host; or a fault with the envelope. Reasons of marks are
  -- found elsewhere, and out of memory says nothing of it
  abbrev pub IsExtensionRefusal : DeterminismRefusal → Type 0
  IsExtensionRefusal (d.Markers _) = ⊥
  IsExtensionRefusal (d.PreferenceCycle cycle) = IsRefusalBy r g (both_lexicon r g host) (d.PreferenceCycle cycle)
  IsExtensionRefusal (d.NotReduced reason) = IsRefusalBy r g (both_lexicon r g host) (d.NotReduced reason)
  IsExtensionRefusal (d.UnitCycle list) = IsRefusalBy r g (both_lexicon r g host) (d.UnitCycle list)
  IsExtensionRefusal (d.HiddenLeftRecursion list) = IsRefusalBy r g (both_lexicon r g host) (d.HiddenLeftRecursion list)
  IsExtensionRefusal (d.Conflict prefix terminal first second) = IsRefusalBy r g (both_lexicon r g host) (d.Conflict prefix terminal first second)
  IsExtensionRefusal (d.Clash prefix left right text) = IsRefusalBy r g (both_lexicon r g host) (d.Clash prefix left right text)
  IsExtensionRefusal (d.Lookahead prefix item t) =
      IsDeterministicBy r g (both_lexicon r g host) × IsLookaheadFault host (extended_grammar r g host) (both_numbers r g host)
      (StandsFor r g (both_numbers r g host)) prefix item t
  IsExtensionRefusal (d.Envelope prefix fault) =
      IsDeterministicBy r g (both_lexicon r g host) × KeepsKernelLookaheads host (extended_grammar r g host) (up_by (both_numbers r g host)) (stands_for r g)
      × IsEnvelopeFault prefix fault
  IsExtensionRefusal (d.NoMemory _) = Unit {0}
