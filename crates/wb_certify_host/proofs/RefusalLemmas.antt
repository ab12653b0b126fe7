-- What a test refuses, the crate's calls refuse.
use Rattle.std.proofs.Common.{◌≡◌, Result, Ok, Err, IfOk, IfErr, Option, Some, None, ℕ, List, [], refl, sym, subst}
use Rattle.std.specs.Prelude.{IfSome, IsSome}
use Rattle.wb_base.specs.Grammar.{GrammarView}
use Rattle.wb_determinism_host.specs.Hosts.{AreHostParts, IsDeterministicHost}
use Rattle.wb_determinism_host.specs.Lexicons.{preference_pairs}
use Rattle.wb_determinism_host.specs.Refusals.{IsHostRefusal, IsNoMemory}
use Rattle.wb_determinism_host.specs.declared.parts.HostParts.{HostParts}
use Rattle.wb_determinism_host.specs.declared.refusal.DeterminismRefusal.{DeterminismRefusal}
use Rattle.wb_determinism_host.specs.declared.refusal.DeterminismRefusal.TheVariants as d
use Rattle.wb_flow.specs.Refusals.{FlowsOk}
use Rattle.wb_graph.specs.Orders.{IsCycle, IsSimpleCycle}
use Rattle.wb_operations.specs.Operations.{OperationSignature}
use Rattle.wb_syntax_resolved.specs.declared.resolved.ResolvedParts.{ResolvedParts}
use Rattle.wb_types.specs.Rules.{KindsOk}
use Rattle.wb_certify_host.specs.Refusals.{IsDeterminismOf, IsDeterministic, IsValueRefusal}
use Rattle.wb_certify_host.specs.WellDefined.{HasWellDefinedAttributes, IsWellDefinedRefusal}
use Rattle.wb_certify_host.specs.declared.refusal.CertifyRefusal.{CertifyRefusal}
use Rattle.wb_certify_host.specs.declared.refusal.CertifyRefusal.TheVariants as c
use Rattle.wb_certify_host.specs.Tests.{AreComplete, IsAttributesRefusal, IsGrammarRefusal, IsKindRefusal}
use Rattle.wb_certify_host.proofs.ValueLemmas.{well_defined}

module _ (r : ResolvedParts) (operations : List OperationSignature) where
  -- a refusal of kinds
  pub kinds_refused : (refusal : CertifyRefusal) → IsKindRefusal r operations refusal → IsValueRefusal r operations refusal
  kinds_refused (c.Names refusal) reason = absurd reason
  kinds_refused (c.Types refusal) reason = reason
  kinds_refused c.NoStart reason = absurd reason
  kinds_refused (c.Determinism refusal) reason = absurd reason
  kinds_refused (c.Attributes refusal) reason = absurd reason
  kinds_refused (c.NoMemory error) reason = tt

  pub kinds_ill_defined : (refusal : CertifyRefusal) → IsKindRefusal r operations refusal → IsWellDefinedRefusal r operations refusal
  kinds_ill_defined (c.Names refusal) reason = absurd reason
  kinds_ill_defined (c.Types refusal) reason = reason
  kinds_ill_defined c.NoStart reason = absurd reason
  kinds_ill_defined (c.Determinism refusal) reason = absurd reason
  kinds_ill_defined (c.Attributes refusal) reason = absurd reason
  kinds_ill_defined (c.NoMemory error) reason = tt

  module _ (kinds : KindsOk r.attributes operations) where
    -- a refusal of preferences, the start, the grammar or the scanner
    pub grammar_refused : (refusal : CertifyRefusal) → IsGrammarRefusal r refusal → IsValueRefusal r operations refusal
    grammar_refused (c.Names refusal) reason = absurd reason
    grammar_refused (c.Types refusal) reason = absurd reason
    grammar_refused c.NoStart (acyclic, none) = record { kinds = kinds; acyclic = acyclic; none = none }
    grammar_refused (c.Determinism refusal) (reason, other) = (record { kinds = kinds; reason = reason }, other)
    grammar_refused (c.Attributes refusal) reason = absurd reason
    grammar_refused (c.NoMemory error) reason = tt

    -- a refusal of attributes
    pub attributes_refused : IsDeterministic r → (refusal : CertifyRefusal) → IsAttributesRefusal r refusal
        → IsValueRefusal r operations refusal
    attributes_refused is (c.Names refusal) reason = absurd reason
    attributes_refused is (c.Types refusal) reason = absurd reason
    attributes_refused is c.NoStart reason = absurd reason
    attributes_refused is (c.Determinism refusal) reason = absurd reason
    attributes_refused is (c.Attributes refusal) (reason, other) =
        (record { kinds = kinds; deterministic = is; reason = reason }, other)
    attributes_refused is (c.NoMemory error) reason = tt

    one_ill_defined : (refusal : CertifyRefusal) → IsAttributesRefusal r refusal → IsWellDefinedRefusal r operations refusal
    one_ill_defined (c.Names refusal) reason = absurd reason
    one_ill_defined (c.Types refusal) reason = absurd reason
    one_ill_defined c.NoStart reason = absurd reason
    one_ill_defined (c.Determinism refusal) reason = absurd reason
    one_ill_defined (c.Attributes refusal) (reason, other) = (record { kinds = kinds; reason = reason }, other)
    one_ill_defined (c.NoMemory error) reason = tt

    pub attributes_ill_defined : {X : Type 0} (result : Result X CertifyRefusal) → IfErr result (IsAttributesRefusal r)
        → IfErr result (IsWellDefinedRefusal r operations)
    attributes_ill_defined (Ok x) reason = tt
    attributes_ill_defined (Err refusal) reason = one_ill_defined refusal reason

    -- attributes that pass
    pub attributes_well_defined : {X : Type 0} (result : Result X CertifyRefusal) → r.attributes.extensions ≡ []
        → IfOk result (λ done. AreComplete r × FlowsOk r.attributes) → IfOk result (λ done. HasWellDefinedAttributes r operations)
    attributes_well_defined (Ok x) alone is = well_defined r operations alone kinds is.0 is.1
    attributes_well_defined (Err refusal) alone is = tt

module _ (r : ResolvedParts) where
  -- a host with a start that isn't deterministic
  of_grammar : (o : Option GrammarView) (refusal : DeterminismRefusal) → IsSome o → IfSome o (λ g. IsHostRefusal r g refusal)
      → IsDeterminismOf r o refusal
  of_grammar (Some g) refusal there reason = reason
  of_grammar None refusal there reason = absurd (cc there)

  pub not_deterministic : (refusal : DeterminismRefusal) → IsSome r.grammar → IfSome r.grammar (λ g. IsHostRefusal r g refusal)
      → ¬ IsNoMemory refusal → IsGrammarRefusal r (c.Determinism refusal)
  not_deterministic refusal there reason other = (of_grammar r.grammar refusal there reason, other)

  -- one without a start
  module _ (none : r.grammar ≡ None) (edges : List (ℕ × ℕ)) (are : edges ≡ preference_pairs r) where
    pub no_start : ((cycle : List ℕ) → ¬ IsCycle edges cycle) → IsGrammarRefusal r c.NoStart
    no_start acyclic = (subst (λ (es : List (ℕ × ℕ)). (cycle : List ℕ) → ¬ IsCycle es cycle) are acyclic, none)

    pub in_cycle : (cycle : List ℕ) (shown : List ℕ) → shown ≡ cycle → IsSimpleCycle edges cycle
        → IsGrammarRefusal r (c.Determinism (d.PreferenceCycle shown))
    in_cycle cycle shown same is = (
      subst (λ (o : Option GrammarView). IsDeterminismOf r o (d.PreferenceCycle shown)) (sym none)
          (subst (λ (es : List (ℕ × ℕ)). IsSimpleCycle es shown) are (subst (IsSimpleCycle edges) (sym same) is)),
      λ never. never,
    )

module _ (r : ResolvedParts) (parts : HostParts) where
  -- a host with a start that is deterministic
  of_start : (o : Option GrammarView) → r.grammar ≡ o → IsSome o → IfSome o (λ g. IsDeterministicHost r g × AreHostParts r g parts)
      → IsDeterministic r
  of_start (Some g) start there is = record { grammar = g; start = start; deterministic = is.0 }
  of_start None start there is = absurd (cc there)

  pub deterministic : IsSome r.grammar → IfSome r.grammar (λ g. IsDeterministicHost r g × AreHostParts r g parts) → IsDeterministic r
  deterministic there is = of_start r.grammar refl there is

  pub parts_of : IfSome r.grammar (λ g. IsDeterministicHost r g × AreHostParts r g parts) → (g : GrammarView) → r.grammar ≡ Some g
      → AreHostParts r g parts
  parts_of is g start = (subst (λ (o : Option GrammarView). IfSome o (λ k. IsDeterministicHost r k × AreHostParts r k parts)) start is).1
