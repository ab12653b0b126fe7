-- What is known of a resolved host after each test.
use Rattle.std.proofs.Common.{◌≡◌, ◌∙◌, Result, Ok, Err, IfOk, IfErr, None, ℕ, List, [], All, length, map, sym, ap, subst, inr}
use Rattle.std.specs.Prelude.{Option, option_map}
use Rattle.wb_flow_theory.specs.Modular.{AreWellDefinedAttributes}
use Rattle.wb_base.specs.Grammar.{GrammarView}
use Rattle.wb_complete.specs.Refusals.{CompleteOk}
use Rattle.wb_determinism_host.specs.Lexicons.{preference_pairs}
use Rattle.wb_determinism_host.proofs.HostLemmas.{edges_below}
use Rattle.wb_flow.specs.Refusals.{FlowsOk, IsTrueFlowRefusal}
use Rattle.wb_flow.specs.declared.refusal.AttributeRefusal.{AttributeRefusal}
use Rattle.wb_graph.specs.Graphs.{IsEdgeBelow}
use Rattle.wb_operations.specs.Operations.{OperationSignature}
use Rattle.wb_syntax_resolved.specs.declared.resolved.ResolvedParts.{ResolvedParts}
use Rattle.wb_syntax_resolved.specs.declared.terminal.Preference.{Preference}
use Rattle.wb_syntax_resolved.specs.Resolved.{IsResolved}
use Rattle.wb_types.specs.Rules.{KindsOk}
use Rattle.wb_determinism_host.specs.declared.parts.HostParts.{HostParts}
use Rattle.wb_certify_host.specs.Hosts.{IsCertified, IsCertifiedValue, IsOfText}
use Rattle.wb_certify_host.specs.Refusals.{IsAttributeRefusal, IsDeterministic, start_of}
use Rattle.wb_certify_host.specs.WellDefined.{HasWellDefinedAttributes}
use Rattle.wb_certify_host.specs.Tests.{AreComplete}

-- pairs that were listed are the preferences
pub pairs_are : (r parts : ResolvedParts) (preferences : List Preference) (items edges : List (ℕ × ℕ)) → parts ≡ r
    → preferences ≡ parts.preferences → items ≡ map (λ (p : Preference). (p.first, p.second)) preferences → edges ≡ items
    → edges ≡ preference_pairs r
pairs_are r parts preferences items edges same of are is =
    is ∙ are ∙ ap (λ (ps : List Preference). map (λ (p : Preference). (p.first, p.second)) ps) of ∙ ap preference_pairs same

-- they are between terminals
pub pairs_below : (r parts : ResolvedParts) (count : ℕ) (edges : List (ℕ × ℕ)) → IsResolved r → parts ≡ r → count ≡ length parts.terminals
    → edges ≡ preference_pairs r → All (IsEdgeBelow count) edges
pairs_below r parts count edges is same counted are =
    subst (λ (n : ℕ). All (IsEdgeBelow n) edges) (sym (counted ∙ ap (λ (q : ResolvedParts). length q.terminals) same))
    (subst (λ (es : List (ℕ × ℕ)). All (IsEdgeBelow (length r.terminals)) es) (sym are) (edges_below r is.preferences))

-- attributes that are complete, where they are tested for flow too
pub flows_also : (r parts : ResolvedParts) (start : Option ℕ) {X : Type 0} (result : Result X AttributeRefusal) → parts ≡ r
    → start ≡ start_of r → CompleteOk parts.attributes start None → IfOk result (λ done. FlowsOk parts.attributes)
    → IfOk result (λ done. AreComplete r × FlowsOk r.attributes)
flows_also r parts start (Ok done) same is complete flows = (
  subst (λ (s : Option ℕ). CompleteOk r.attributes s None) is
      (subst (λ (q : ResolvedParts). CompleteOk q.attributes start None) same complete),
  subst (λ (q : ResolvedParts). FlowsOk q.attributes) same flows,
)
flows_also r parts start (Err refusal) same is complete flows = tt

-- and the other way round
pub flow_refused : (r parts : ResolvedParts) (start : Option ℕ) {X : Type 0} (result : Result X AttributeRefusal) → parts ≡ r
    → start ≡ start_of r → CompleteOk parts.attributes start None → IfErr result (IsTrueFlowRefusal parts.attributes)
    → IfErr result (λ refusal. IsAttributeRefusal r (start_of r) refusal)
flow_refused r parts start (Ok done) same is complete refused = tt
flow_refused r parts start (Err refusal) same is complete refused =
    inr (
      subst (λ (s : Option ℕ). CompleteOk r.attributes s None) is
          (subst (λ (q : ResolvedParts). CompleteOk q.attributes start None) same complete),
      subst (λ (q : ResolvedParts). IsTrueFlowRefusal q.attributes refusal) same refused,
    )

-- what is complete and keeps to its flow types is well defined
pub well_defined : (r : ResolvedParts) (operations : List OperationSignature) → r.attributes.extensions ≡ []
    → KindsOk r.attributes operations → AreComplete r → FlowsOk r.attributes → HasWellDefinedAttributes r operations
well_defined r operations alone kinds complete flows = record {
  alone = alone;
  kinds = kinds;
  attributes = record {
    productions = λ number production there. record {
      top = complete.top number production there;
      below = complete.below number production there;
      flow_types = flows.flow_types.attributes number production there;
      forward_flow_type = flows.flow_types.forwards number production there;
      acyclic = flows.acyclic number production there;
    };
    forward_needs = flows.forward_needs;
    start_inherits = complete.start_inherits;
    forwards = tt;
    forward_equations = tt;
  };
}

-- all tests together
pub certified : (r : ResolvedParts) (operations : List OperationSignature) → IsOfText r
    → KindsOk r.attributes operations → IsDeterministic r → AreComplete r → FlowsOk r.attributes → IsCertifiedValue r operations
certified r operations of_text kinds is complete flows = record {
  of_text = of_text;
  alone = of_text.names.value.extensions;
  kinds = kinds;
  grammar = is.grammar;
  start = is.start;
  deterministic = is.deterministic;
  attributes = subst (λ (o : Option GrammarView). AreWellDefinedAttributes r.attributes (option_map (λ (g : GrammarView). g.start) o) None)
      is.start (well_defined r operations of_text.names.value.extensions kinds complete flows).attributes;
}

-- what is kept of it, with copies
pub kept_of : (r copied : ResolvedParts) (operations kept : List OperationSignature) (parts : HostParts) → copied ≡ r → kept ≡ operations
    → IsCertified (record { resolved = r; parts = parts; operations = operations })
    → IsCertified (record { resolved = copied; parts = parts; operations = kept })
kept_of r copied operations kept parts same also is =
    subst (λ (q : ResolvedParts). IsCertified (record { resolved = q; parts = parts; operations = kept })) (sym same)
    (subst (λ (os : List OperationSignature). IsCertified (record { resolved = r; parts = parts; operations = os })) (sym also) is)
