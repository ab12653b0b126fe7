-- A certified host has parts, beside which its certified extensions have theirs: no refusal but out of memory comes.
use Rattle.std.proofs.Common.{◌≡◌, ◌∙◌, List, Option, Some, length, ap, refl, sym, subst, arith}
use Rattle.std.specs.Prelude.{IfSome, IsSome}
use Rattle.std.proofs.lemmas.List.{length-append}
use Rattle.wb_base.specs.Grammar.{GrammarView, Production}
use Rattle.wb_certify.specs.Extensions.{IsCertifiedBeside}
use Rattle.wb_certify.specs.Kept.{AreCertifiedBoth}
use Rattle.wb_certify_host.specs.Hosts.{IsCertifiedValue}
use Rattle.wb_certify_parts.specs.Kept.{AreKeptParts, ArePartsBeside}
use Rattle.wb_determinism.specs.declared.parts.ExtensionParts.{ExtensionParts}
use Rattle.wb_determinism.specs.Extensions.{AreExtensionParts, IsDeterministicExtension, IsHostBeside, IsPartOf, extended_grammar}
use Rattle.wb_determinism.specs.Refusals.{IsExtensionRefusal}
use Rattle.wb_determinism_beside.specs.Pieces.{IsExtendedBy}
use Rattle.wb_determinism_beside.proofs.GivenLemmas.{both_rules, own_rules}
use Rattle.wb_determinism_beside.proofs.InRange.{with_some}
use Rattle.wb_determinism_beside.proofs.PieceLemmas.{piece, same_extensible}
use Rattle.wb_determinism_host.specs.Hosts.{AreHostParts, IsDeterministicHost}
use Rattle.wb_determinism_host.specs.Refusals.{IsHostRefusal, IsNoMemory}
use Rattle.wb_determinism_host.specs.declared.parts.HostParts.{HostParts}
use Rattle.wb_determinism_host.specs.declared.refusal.DeterminismRefusal.{DeterminismRefusal}
use Rattle.wb_determinism_host.specs.declared.refusal.DeterminismRefusal.TheVariants as d
use Rattle.wb_marking.specs.declared.refusal.MarkRefusal.{MarkRefusal}
use Rattle.wb_marking_holes.specs.Holes.{with_holes_of}
use Rattle.wb_operations.specs.Operations.{OperationSignature}
use Rattle.wb_syntax_resolved.specs.declared.resolved.ResolvedParts.{ResolvedParts}

-- memory ran out, not while markers were tested
abbrev pub IsPlainMemory : DeterminismRefusal → Type 0
IsPlainMemory (d.NoMemory error) = Unit {0}
IsPlainMemory other = ⊥

-- where the markers aren't refused, memory ran out plainly or not at all
no_memory : (P : DeterminismRefusal → Type 0) → ((m : MarkRefusal) → ¬ P (d.Markers m)) → (refusal : DeterminismRefusal) → P refusal
    → ¬ IsPlainMemory refusal → ¬ IsNoMemory refusal
no_memory P markers (d.Markers m) is plain = absurd (markers m is)
no_memory P markers (d.NoMemory error) is plain = plain
no_memory P markers other is plain = λ z. z

-- of what is there
there_is : {X : Type 0} (o : Option X) (x : X) → o ≡ Some x → IsSome o
there_is o x is = subst IsSome (sym is) refl

-- what holds of what is there
holds_of : {X : Type 0} (o : Option X) (P : X → Type 0) (x : X) → o ≡ Some x → P x → IfSome o P
holds_of o P x is holds = subst (λ k. IfSome k P) (sym is) holds

-- a host that is refused for any reason but out of memory isn't deterministic
abbrev pub HostLaw : Type 0
HostLaw = (r : ResolvedParts) (g : GrammarView) (refusal : DeterminismRefusal) → IsHostRefusal r g refusal → IsDeterministicHost r g
    → IsNoMemory refusal

-- an extension that is refused for any reason but out of memory isn't deterministic beside its host
abbrev pub ExtensionLaw : Type 0
ExtensionLaw = (r : ResolvedParts) (g host : GrammarView) (refusal : DeterminismRefusal) → IsExtensionRefusal r g host refusal
    → IsDeterministicExtension r g host → IsNoMemory refusal

module _ (host : ResolvedParts) (operations : List OperationSignature) (is : IsCertifiedValue host operations) where
  -- there is a start
  pub host_start : IsSome host.grammar
  host_start = there_is host.grammar is.grammar is.start

  -- a certified host is refused for no reason
  pub no_host_refusal : HostLaw → (refusal : DeterminismRefusal) → IfSome host.grammar (λ g. IsHostRefusal host g refusal)
      → ¬ IsPlainMemory refusal → ⊥
  no_host_refusal law refusal reason plain =
      let here = with_some host.grammar (λ g. IsHostRefusal host g refusal) reason is.grammar is.start in
      no_memory (IsHostRefusal host is.grammar) (λ m z. z) refusal here plain (law host is.grammar refusal here is.deterministic)

  -- what is made of it are its parts
  pub found_host : (parts : HostParts) → IfSome host.grammar (λ g. IsDeterministicHost host g × AreHostParts host g parts)
      → IfSome host.grammar (λ g. AreHostParts host g parts)
  found_host parts found =
      holds_of host.grammar (λ g. AreHostParts host g parts) is.grammar is.start
      (with_some host.grammar (λ g. IsDeterministicHost host g × AreHostParts host g parts) found is.grammar is.start).1

-- the extension is certified with its host, whose parts these are
pub record HasHostParts (host r : ResolvedParts) (operations : List OperationSignature) (parts : HostParts) : Type 0 where
  pub certified : IsCertifiedBeside host r operations
  pub both : (h g : GrammarView) → host.grammar ≡ Some h → r.grammar ≡ Some g → AreCertifiedBoth host r h g operations
  pub of_host : IfSome host.grammar (λ g. AreHostParts host g parts)

module _ (host r : ResolvedParts) (operations : List OperationSignature) (parts : HostParts)
    (is : HasHostParts host r operations parts) where
  abbrev h : GrammarView
  h = is.certified.host_grammar

  abbrev g : GrammarView
  g = is.certified.grammar

  together : AreCertifiedBoth host r h g operations
  together = is.both h g is.certified.host_start is.certified.start

  own : AreHostParts host h parts
  own = with_some host.grammar (λ g. AreHostParts host g parts) is.of_host h is.certified.host_start

  -- it extends the host
  extended : IsExtendedBy host r h g
  extended = record {
    host_resolved = together.host_resolved;
    resolved = together.resolved;
    host_start = is.certified.host_start;
    start = is.certified.start;
    alone = together.host_certified.alone;
    spec = together.extends.spec;
    names = together.extends.names;
    bridges = is.certified.deterministic.markers.bridges;
  }

  own_is : parts.grammar ≡ with_holes_of h r.extensible
  own_is = own.grammar ∙ ap (with_holes_of h) (sym (same_extensible host r h g extended))

  -- the host's grammar has as many holes, and there is no less with the extension
  part : IsPartOf (with_holes_of h r.extensible) (with_holes_of g r.extensible) (length r.extensible)
  part =
      let extends = (piece host r h g extended).extends in
      let more = extends.terminals in
      let rules = ap (λ (z : List Production). length z) extends.productions.1 ∙ length-append h.productions extends.productions.0 in
      let host_rules = own_rules h g r.extensible in
      let all_rules = both_rules h g r.extensible in record {
        terminals = omega arith;
        productions = omega (arith, host_rules);
        more_terminals = omega (arith, more);
        more_productions = omega (arith, host_rules, all_rules, rules);
      }

  -- there is a start
  pub start_is : IsSome r.grammar
  start_is = there_is r.grammar g is.certified.start

  -- the parts are those beside which the extension is tested
  pub host_beside : IfSome r.grammar (λ k. IsHostBeside r k parts)
  host_beside =
      holds_of r.grammar (λ k. IsHostBeside r k parts) g is.certified.start (record {
        of_grammar = own.of_grammar;
        kernels = own.kernels;
        lookaheads = own.lookaheads;
        part = subst (λ (k : GrammarView). IsPartOf k (extended_grammar r g k) (length r.extensible)) (sym own_is) part;
      })

  -- a certified extension is refused for no reason
  pub no_extension_refusal : ExtensionLaw → (refusal : DeterminismRefusal)
      → IfSome r.grammar (λ k. IsExtensionRefusal r k parts.grammar refusal) → ¬ IsPlainMemory refusal → ⊥
  no_extension_refusal law refusal reason plain =
      let here = with_some r.grammar (λ k. IsExtensionRefusal r k parts.grammar refusal) reason g is.certified.start in
      let deterministic : IsDeterministicExtension r g parts.grammar =
      subst (IsDeterministicExtension r g) (sym own.grammar) is.certified.deterministic.deterministic in
      no_memory (IsExtensionRefusal r g parts.grammar) (λ m z. z) refusal here plain (law r g parts.grammar refusal here deterministic)

-- what is made of it are its parts
pub found_extension : (r : ResolvedParts) (host : HostParts) (parts : ExtensionParts)
    → IfSome r.grammar (λ g. IsDeterministicExtension r g host.grammar × AreExtensionParts r g host parts) → ArePartsBeside r host parts
found_extension r host parts found g start =
    (with_some r.grammar (λ k. IsDeterministicExtension r k host.grammar × AreExtensionParts r k host parts) found g start).1

-- they are beside some parts of the host
pub kept_parts : (host r : ResolvedParts) (host_parts : HostParts) → IfSome host.grammar (λ g. AreHostParts host g host_parts)
    → (parts : ExtensionParts) → ArePartsBeside r host_parts parts → AreKeptParts host r parts
kept_parts host r host_parts are parts beside = record {
  host_parts = host_parts;
  of_host = λ g start. with_some host.grammar (λ k. AreHostParts host k host_parts) are g start;
  beside = beside;
}
