-- What is known of a host with an extension after each test.
use Rattle.std.proofs.Common.{◌≡◌, Some, None, List, sym, subst, refl}
use Rattle.std.specs.Prelude.{IfSome, IsSome, Option, option_map}
use Rattle.wb_base.specs.Grammar.{GrammarView}
use Rattle.wb_certify_host.specs.Hosts.{CertifiedView, IsCertified}
use Rattle.wb_certify_host.specs.Refusals.{start_of}
use Rattle.wb_certify_host.specs.declared.refusal.CertifyRefusal.{CertifyRefusal}
use Rattle.wb_certify_host.specs.declared.refusal.CertifyRefusal.TheVariants as c
use Rattle.wb_complete.specs.Refusals.{CompleteOk}
use Rattle.wb_certify_host.specs.DeterministicHosts.{AreHostParts}
use Rattle.wb_certify_host.specs.DeterminismRefusals.{IsNoMemory}
use Rattle.wb_certify_host.specs.parts.HostParts.{HostParts}
use Rattle.wb_certify_host.specs.determinism_refusal.DeterminismRefusal.{DeterminismRefusal}
use Rattle.wb_certify_host.specs.determinism_refusal.DeterminismRefusal.TheVariants as d
use Rattle.wb_determinism_beside.specs.DeterministicExtensions.{IsDeterministicExtension, IsHostBeside}
use Rattle.wb_operations.specs.Operations.{OperationSignature}
use Rattle.wb_syntax_resolved.specs.declared.resolved.ResolvedParts.{ResolvedParts}
use Rattle.wb_syntax_resolved.specs.Resolved.{IsResolved}
use Rattle.wb_types.specs.Rules.{KindsOk}
use Rattle.wb_certify.specs.Extensions.{IsCertifiedBeside}
use Rattle.wb_certify.specs.Kept.{Extends, IsKept}
use Rattle.wb_certify.specs.Refusals.{IsAttributeRefusal, IsBesideRefusal, IsReason}
use Rattle.wb_certify.specs.Tests.{AttributesOk, IsAttributesReason}
use Rattle.wb_certify.specs.Inner.Tests.{IsLaterRefusal, IsMade, IsMadeCertified, IsOfHost, IsPlainMemory}
use Rattle.wb_certify.specs.Beside.{AreClearBeside, IsFound}
use Rattle.wb_certify.specs.Inner.Tests.{IsReasonBeside}
use Rattle.wb_certify.proofs.BesideLemmas.{for_some, has_start, host_beside}

-- what is there
some_of : {X : Type 0} (o : Option X) → IsSome o → (x : X) × (o ≡ Some x)
some_of (Some x) is = (x, refl)
some_of None is = absurd (cc is)

-- a reason that isn't plainly out of memory isn't out of memory
no_memory : (r : ResolvedParts) (g host : GrammarView) (refusal : DeterminismRefusal) → IsReason r g host refusal → ¬ IsPlainMemory refusal
    → ¬ IsNoMemory refusal
no_memory r g host (d.Markers refusal) reason plain = reason.1
no_memory r g host (d.PreferenceCycle cycle) reason plain = λ is. is
no_memory r g host (d.NotReduced which) reason plain = λ is. is
no_memory r g host (d.UnitCycle list) reason plain = λ is. is
no_memory r g host (d.HiddenLeftRecursion list) reason plain = λ is. is
no_memory r g host (d.Conflict prefix terminal first second) reason plain = λ is. is
no_memory r g host (d.Clash prefix left right text) reason plain = λ is. is
no_memory r g host (d.Lookahead prefix item terminal) reason plain = λ is. is
no_memory r g host (d.Envelope prefix fault) reason plain = λ is. is
no_memory r g host (d.NoMemory error) reason plain = plain

module _ (host : CertifiedView) (r : ResolvedParts) (parts : HostParts) (extends : Extends host.resolved r) (is_host : IsCertified host)
    (are : parts ≡ host.parts) where
  abbrev host_grammar : GrammarView
  host_grammar = is_host.certified.grammar

  own : AreHostParts host.resolved host_grammar parts
  own = subst (AreHostParts host.resolved host_grammar) (sym are) (is_host.parts host_grammar is_host.certified.start)

  -- there is a start
  pub start_is : IsSome r.grammar
  start_is = has_start host.resolved r extends.spec extends.names host_grammar is_host.certified.start

  -- the host's parts are those beside which the extension is tested
  pub parts_beside : IfSome r.grammar (λ g. IsHostBeside r g parts)
  parts_beside =
      for_some r.grammar (λ g. IsHostBeside r g parts) (λ g start.
      host_beside host.resolved r extends.spec extends.names host_grammar is_host.certified.start is_host.whole g start parts own)

  -- the parts are those of the host, of which this is the specification with an extension
  pub of_host : IsResolved r → IsOfHost r parts
  of_host whole = record {
    host = host.resolved;
    host_grammar = host_grammar;
    host_whole = is_host.whole;
    whole = whole;
    host_start = is_host.certified.start;
    alone = is_host.certified.alone;
    deterministic = is_host.certified.deterministic;
    of_host = own;
    spec = extends.spec;
    names = extends.names;
  }

  -- where it is deterministic beside these parts, it is beside the host
  pub made_beside : AreClearBeside r parts.grammar → IsMade host r
  made_beside is =
      let there = some_of r.grammar start_is in
      let one = is there.0 there.1 in record {
        host_certified = is_host;
        found = record {
          host_grammar = host_grammar;
          host_start = is_host.certified.start;
          grammar = there.0;
          start = there.1;
          deterministic = record {
            markers = one.markers;
            deterministic = subst (IsDeterministicExtension r there.0) own.grammar one.deterministic;
          };
        };
      }

  -- where it isn't, it isn't beside the host for the same reason
  pub not_found : (refusal : DeterminismRefusal) → IsReasonBeside r parts.grammar refusal → ¬ IsPlainMemory refusal
      → IsLaterRefusal host.resolved r (c.Determinism refusal)
  not_found refusal reason plain operations kinds =
      let there = some_of r.grammar start_is in (
        record {
          kinds = kinds;
          host_grammar = host_grammar;
          host_start = is_host.certified.start;
          grammar = there.0;
          start = there.1;
          reason = subst (λ (k : GrammarView). IsReason r there.0 k refusal) own.grammar (reason there.0 there.1);
        },
        no_memory r there.0 parts.grammar refusal (reason there.0 there.1) plain,
      )

-- all tests together
pub certified : (host r : ResolvedParts) (operations : List OperationSignature) → Extends host r → KindsOk r.attributes operations
    → IsFound host r → AttributesOk r.attributes (start_of r) → IsCertifiedBeside host r operations
certified host r operations extends kinds is ok = record {
  name = extends.spec.name;
  one = extends.names.value.extensions;
  kinds = kinds;
  host_grammar = is.host_grammar;
  host_start = is.host_start;
  grammar = is.grammar;
  start = is.start;
  deterministic = is.deterministic;
  attributes = record {
    productions = λ number production there. record {
      top = ok.complete.top number production there;
      below = ok.complete.below number production there;
      flow_types = ok.flows.flow_types.attributes number production there;
      forward_flow_type = ok.flows.flow_types.forwards number production there;
      acyclic = ok.flows.acyclic number production there;
    };
    forward_needs = ok.flows.forward_needs;
    start_inherits = started.start_inherits;
    forwards = ok.complete.forwards;
    forward_equations = ok.forwards;
  };
}
  where
    started : CompleteOk r.attributes (Some is.grammar.start) (Some 1)
    started = subst (λ (o : Option GrammarView). CompleteOk r.attributes (option_map (λ (g : GrammarView). g.start) o) (Some 1)) is.start
        ok.complete

-- where attributes aren't well defined, it isn't certified
pub attributes_refused : (host r : ResolvedParts) (operations : List OperationSignature) → KindsOk r.attributes operations → IsFound host r
    → (refusal : CertifyRefusal) → IsAttributesReason r refusal → IsBesideRefusal host r operations refusal
attributes_refused host r operations kinds is (c.Names refusal) reason = absurd reason
attributes_refused host r operations kinds is (c.Types refusal) reason = absurd reason
attributes_refused host r operations kinds is c.NoStart reason = absurd reason
attributes_refused host r operations kinds is (c.Determinism refusal) reason = absurd reason
attributes_refused host r operations kinds is (c.Attributes refusal) (reason, other) = (
  record {
    kinds = kinds;
    host_grammar = is.host_grammar;
    host_start = is.host_start;
    grammar = is.grammar;
    start = is.start;
    deterministic = is.deterministic;
    reason = subst (λ (o : Option GrammarView). IsAttributeRefusal r.attributes (option_map (λ (g : GrammarView). g.start) o) refusal)
        is.start reason;
  },
  other,
)
attributes_refused host r operations kinds is (c.NoMemory error) reason = tt

-- what is kept of it, with copies
pub kept_of : (host : CertifiedView) (base r copied : ResolvedParts) (operations kept : List OperationSignature)
    → base ≡ host.resolved → copied ≡ r → kept ≡ host.operations → operations ≡ host.operations → Extends host.resolved r
    → IsMadeCertified host r operations → IsKept (record { host = base; resolved = copied; operations = kept })
kept_of host base r copied operations kept same also again alike extends made =
    subst (λ (b : ResolvedParts). IsKept (record { host = b; resolved = copied; operations = kept })) (sym same)
    (subst (λ (q : ResolvedParts). IsKept (record { host = host.resolved; resolved = q; operations = kept })) (sym also)
    (subst (λ (os : List OperationSignature). IsKept (record { host = host.resolved; resolved = r; operations = os }))
    (sym again) (record {
      host_certified = made.host_certified.certified;
      extends = extends;
      certified = subst (IsCertifiedBeside host.resolved r) alike made.certified;
    })))
