-- What is known of an extension that is judged, whose specification has a grammar.
use Rattle.std.proofs.Common.{◌≤◌, Option, Some, None, IfSome, List, length}
use Rattle.std.specs.Prelude.{IsSome}
use Rattle.wb_base.specs.Grammar.{GrammarView}
use Rattle.wb_determinism_host.specs.declared.parts.HostParts.{HostParts}
use Rattle.wb_determinism_host.specs.declared.refusal.DeterminismRefusal.{DeterminismRefusal}
use Rattle.wb_determinism_host.specs.Hosts.{AreHostParts, IsDeterministicBy}
use Rattle.wb_determinism_host.specs.Lexicons.{lexicon_of}
use Rattle.wb_determinism_host.specs.Refusals.{IsBeforeConflict, IsHostRefusal, IsRefusalBy}
use Rattle.wb_determinism_host.proofs.RefusalLemmas.{before_clash}
use Rattle.wb_items.specs.Kernels.{count_of}
use Rattle.wb_syntax_resolved.specs.declared.resolved.ResolvedParts.{ResolvedParts}
use Rattle.wb_determinism.specs.declared.parts.ExtensionParts.{ExtensionParts}
use Rattle.wb_determinism.specs.declared.regions.Region.{Region}
use Rattle.wb_determinism.specs.Extensions.{AreExtensionParts, IsDeterministicExtension, IsHostBeside, both_lexicon, both_numbers}
use Rattle.wb_determinism.specs.Refusals.{IsExtensionRefusal}
use Rattle.wb_determinism.specs.Regions.{AreRegions}
use Rattle.wb_determinism.proofs.ExtensionLemmas.{host_refusal}

-- a refusal of the host with the extension is one of the extension
pub some_refusal : (r : ResolvedParts) (o : Option GrammarView) (host : GrammarView) (refusal : DeterminismRefusal)
    → IfSome o (λ g. IsRefusalBy r g (both_lexicon r g host) refusal) → IfSome o (λ g. IsExtensionRefusal r g host refusal)
some_refusal r None host refusal is = tt
some_refusal r (Some g) host refusal is = host_refusal r g host refusal is

-- so is one of the specification as that of a host, before the conflict
pub early_refusal : (r : ResolvedParts) (o : Option GrammarView) (host : GrammarView) (refusal : DeterminismRefusal)
    → IsBeforeConflict refusal → IfSome o (λ g. IsHostRefusal r g refusal) → IfSome o (λ g. IsExtensionRefusal r g host refusal)
early_refusal r None host refusal early is = tt
early_refusal r (Some g) host refusal early is =
    host_refusal r g host refusal (before_clash r g (lexicon_of r g) (both_lexicon r g host) refusal early is)

-- the parts with regions
abbrev pub with_regions : HostParts → List Region → ExtensionParts
with_regions both regions = record {
  grammar = both.grammar;
  kernels = both.kernels;
  lookaheads = both.lookaheads;
  regions = regions;
}

-- an extension whose rules hold is deterministic, and these are its parts
pub some_extension : (r : ResolvedParts) (o : Option GrammarView) (host both : HostParts) (regions : List Region)
    → IfSome o (λ g. IsDeterministicBy r g (both_lexicon r g host.grammar) × AreHostParts r g both)
    → IfSome o (λ g. IsDeterministicExtension r g host.grammar)
    → IfSome o (λ g. AreRegions host.kernels both.kernels (both_numbers r g host.grammar) (count_of both.kernels) regions)
    → IfSome o (λ g. IsDeterministicExtension r g host.grammar × AreExtensionParts r g host (with_regions both regions))
some_extension r None host both regions is ext are = tt
some_extension r (Some g) host both regions (_, parts) ext are = (
  ext,
  record {
    grammar = parts.grammar;
    of_grammar = parts.of_grammar;
    kernels = parts.kernels;
    lookaheads = parts.lookaheads;
    regions = are;
  },
)

-- the host's grammar has as many productions as holes
pub holes_within : (r : ResolvedParts) (o : Option GrammarView) (host : HostParts) → IsSome o → IfSome o (λ g. IsHostBeside r g host)
    → length r.extensible ≤ length host.grammar.productions
holes_within r None host some is = absurd (cc some)
holes_within r (Some g) host some is = is.part.productions
