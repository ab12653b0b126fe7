-- What the tests find is what the rules say.
use Rattle.std.proofs.Common.{◌≡◌, ◌≤◌, ◌-◌, ◌+◌, inl, inr, ℕ, zero, suc, true, false, List, Option, None, Some, length, refl, sym, subst}
use Rattle.std.proofs.Common.{arith, is_some, slice_get, true≢false}
use Rattle.std.proofs.lemmas.Option.{slice_get_within}
use Rattle.wb_lemmas.proofs.Places.{at_once, at_within, at_earlier}
use Rattle.wb_flow_theory.specs.Vertices as w
use Rattle.wb_flow_theory.specs.Flow.{one, more, Reaches}
use Rattle.wb_flow_theory.specs.Modular.{IsProduction, EachProduction, HoldForwardNeeds}
use Rattle.wb_flow_theory.specs.WellDefined.{IsAcyclic}
use Rattle.wb_flow.specs.declared.refusal.AttributeRefusal.{AttributeRefusal}
use Rattle.wb_flow.specs.declared.refusal.AttributeRefusal.TheVariants as r
use Rattle.wb_flow.specs.declared.vertex.Vertex.{Vertex}
use Rattle.wb_flow.specs.Inner.Sources.{RefusesForward, RefusesAnyReads, RefusesAnyCycle, KeepsAll, KnowsCycle, Notes}
use Rattle.wb_flow.specs.OneAnswer.{FlowsExclude, FlowsHaveOneAnswer}
use Rattle.wb_flow.specs.Refusals.{KeepToFlowTypes, FlowsOk, ReachesOutside, HasReadOutside, IsFlowCycle}
use Rattle.wb_flow.specs.Refusals.{IsTrueFlowRefusal}
use Rattle.wb_flow.specs.Vertices.{vertex_of}
use Rattle.wb_flow.proofs.AddingLemmas.{below_or}
use Rattle.wb_syntax_resolved.specs.declared.attribution.AttributionParts.{AttributionParts}
use Rattle.wb_syntax_resolved.specs.declared.production.Production.{Production}

module _ (a : AttributionParts) (production : Production) (vertices : List Vertex) (cycle : IsFlowCycle a production vertices) where
  -- the first vertex of a cycle reaches each other
  first_reaches : (u : Vertex) → slice_get vertices 0 ≡ Some u → (k : ℕ) (v : Vertex) → slice_get vertices (suc k) ≡ Some v
      → Reaches a production (vertex_of a u) (vertex_of a v)
  first_reaches u first zero v at = one (cycle.next 0 u v first at)
  first_reaches u first (suc k) v at =
      let (x, before) = at_earlier vertices (suc k) (suc (suc k)) v at (omega arith) in
      more (first_reaches u first k x before) (cycle.next (suc k) x v before (subst (λ z. slice_get vertices z ≡ Some v) (omega arith) at))

  -- so it reaches itself
  pub cycle_reaches : (v : w.Vertex) × Reaches a production v v
  cycle_reaches =
      let (u, first) = at_within vertices 0 cycle.nonempty in
      let (x, last) = at_within vertices (length vertices - 1) (let some = cycle.nonempty in omega (arith, some)) in
      (vertex_of a u, go u first (length vertices - 1) refl x last) where
        go : (u : Vertex) → slice_get vertices 0 ≡ Some u → (k : ℕ) → length vertices - 1 ≡ k → (x : Vertex)
            → slice_get vertices (length vertices - 1) ≡ Some x → Reaches a production (vertex_of a u) (vertex_of a u)
        go u first zero end x last =
            one (cycle.closes u u (subst (λ z. slice_get vertices z ≡ Some u) (sym end) first) first)
        go u first (suc k) end x last =
            more (first_reaches u first k x (subst (λ z. slice_get vertices z ≡ Some x) end last)) (cycle.closes x u last first)

-- where the rules hold no refusal is true
flows_exclude : (a : AttributionParts) → FlowsOk a → FlowsExclude a
flows_exclude a ok = record {
  lacks = λ m x i lacks. lacks.lacks (ok.forward_needs m x i lacks.occurs lacks.forward);
  reads = λ p x i reads. keeps p x i reads.production reads.there reads.reaches;
  cycle = λ p vertices found. (
      let (v, reaches) = cycle_reaches a found.production vertices found.cycle in
      ok.acyclic p found.production found.there v reaches
      );
} where
  keeps : (p : ℕ) (x : Option ℕ) (i : ℕ) (production : Production) → IsProduction a p production → ReachesOutside a production x i → ⊥
  keeps p (Some x) i production there (occurs, reaches, lacks) =
      lacks (ok.flow_types.attributes p production there x i occurs reaches)
  keeps p None i production there (reaches, lacks) = lacks (ok.flow_types.forwards p production there i reaches)

-- a production that doesn't keep to a flow type doesn't keep to all
reads_break : (a : AttributionParts) (p : ℕ) (x : Option ℕ) (i : ℕ) → HasReadOutside a p x i → ¬ KeepToFlowTypes a
reads_break a p (Some x) i reads keep =
    let (occurs, reaches, lacks) = reads.reaches in lacks (keep.attributes p reads.production reads.there x i occurs reaches)
reads_break a p None i reads keep =
    let (reaches, lacks) = reads.reaches in lacks (keep.forwards p reads.production reads.there i reaches)

pub flows_one_answer : (a : AttributionParts) → FlowsHaveOneAnswer a
flows_one_answer a = record {
  rules = flows_exclude a;
  refusals = record {
    lacks_reads = λ m x i p y j lacks reads. lacks.lacks (reads.forward_needs m x i lacks.occurs lacks.forward);
    lacks_cycle = λ m x i p vertices lacks cycle. lacks.lacks (cycle.forward_needs m x i lacks.occurs lacks.forward);
    reads_cycle = λ p x i q vertices reads cycle. reads_break a p x i reads cycle.flow_types;
  };
}

-- a refusal by the first rule is true
pub forward_refused : (a : AttributionParts) (refusal : AttributeRefusal) → RefusesForward a refusal → IsTrueFlowRefusal a refusal
forward_refused a (r.StartInherits x) is = absurd is
forward_refused a (r.NoForward p) is = absurd is
forward_refused a (r.NoEquation p x) is = absurd is
forward_refused a (r.NoInherited p v) is = absurd is
forward_refused a (r.LacksForward m x i) is = is
forward_refused a (r.Reads p x i) is = absurd is
forward_refused a (r.Cycle p vs) is = absurd is
forward_refused a (r.ForwardReads p x i) is = absurd is
forward_refused a (r.NoMemory e) is = tt

-- one by the second is, where the first holds
pub reads_refused : (a : AttributionParts) → HoldForwardNeeds a → (refusal : AttributeRefusal) → RefusesAnyReads a refusal
    → IsTrueFlowRefusal a refusal
reads_refused a hold (r.StartInherits x) (p, production, there, is) = absurd is
reads_refused a hold (r.NoForward q) (p, production, there, is) = absurd is
reads_refused a hold (r.NoEquation q x) (p, production, there, is) = absurd is
reads_refused a hold (r.NoInherited q v) (p, production, there, is) = absurd is
reads_refused a hold (r.LacksForward m x i) (p, production, there, is) = absurd is
reads_refused a hold (r.Reads q x i) (p, production, there, (same, reaches)) =
    record { forward_needs = hold; production = production; there = subst (λ z. IsProduction a z production) (sym same) there; reaches = reaches }
reads_refused a hold (r.Cycle q vs) (p, production, there, is) = absurd is
reads_refused a hold (r.ForwardReads q x i) (p, production, there, is) = absurd is
reads_refused a hold (r.NoMemory e) is = tt

-- all productions keep to their flow types
pub keep_to_all : (a : AttributionParts)
    → ((p : ℕ) (production : Production) → IsProduction a p production → KeepsAll a production) → KeepToFlowTypes a
keep_to_all a each = record {
  attributes = λ p production there. (each p production there).0;
  forwards = λ p production there. (each p production there).1;
}

-- one by the third is, where the others hold
pub cycle_refused : (a : AttributionParts) → HoldForwardNeeds a → KeepToFlowTypes a → (refusal : AttributeRefusal)
    → RefusesAnyCycle a refusal → IsTrueFlowRefusal a refusal
cycle_refused a hold keep (r.StartInherits x) (p, production, there, is) = absurd is
cycle_refused a hold keep (r.NoForward q) (p, production, there, is) = absurd is
cycle_refused a hold keep (r.NoEquation q x) (p, production, there, is) = absurd is
cycle_refused a hold keep (r.NoInherited q v) (p, production, there, is) = absurd is
cycle_refused a hold keep (r.LacksForward m x i) (p, production, there, is) = absurd is
cycle_refused a hold keep (r.Reads q x i) (p, production, there, is) = absurd is
cycle_refused a hold keep (r.Cycle q vs) (p, production, there, (same, cycle)) = record {
  forward_needs = hold;
  flow_types = keep;
  production = production;
  there = subst (λ z. IsProduction a z production) (sym same) there;
  cycle = cycle;
}
cycle_refused a hold keep (r.ForwardReads q x i) (p, production, there, is) = absurd is
cycle_refused a hold keep (r.NoMemory e) is = tt

-- what is known of cycles after one production more
pub knows_more : (a : AttributionParts) (number : ℕ) (production : Production) → IsProduction a number production
    → (old new : Option AttributeRefusal) → KnowsCycle a number old → Notes a number production old new → KnowsCycle a (number + 1) new
knows_more a number production there (Some known) new knows same = subst (KnowsCycle a (number + 1)) (sym same) knows
knows_more a number production there None (Some refusal) knows refuses = (number, production, there, refuses)
knows_more a number production there None None knows acyclic = λ k p lt at. elim (below_or k number lt) [
  | inl low ↦ knows k p low at
  | inr last ↦ subst (IsAcyclic a) (sym (at_once a.productions number p production (subst (λ z. IsProduction a z p) last at) there)) acyclic
]

-- and after all
pub knows_all : (a : AttributionParts) (count : ℕ) (known : Option AttributeRefusal) → length a.productions ≤ count
    → KnowsCycle a count known → KnowsCycle a (length a.productions) known
knows_all a count (Some refusal) ended knows = knows
knows_all a count None ended knows = λ k p lt at. knows k p (omega (arith, lt, ended)) at

-- where no production has a cycle, the rules hold, if they do but for cycles
pub flows_ok : (a : AttributionParts) → HoldForwardNeeds a → EachProduction a (KeepsAll a) → KnowsCycle a (length a.productions) None
    → FlowsOk a
flows_ok a hold keeps knows = record {
  forward_needs = hold;
  flow_types = keep_to_all a keeps;
  acyclic = λ p production there. knows p production (slice_get_within a.productions p production there) there;
}

module _ (a : AttributionParts) (number : ℕ) (production : Production) where
  -- where a cycle is known it stays
  pub notes_known : (known : Option AttributeRefusal) → is_some known ≡ true → Notes a number production known known
  notes_known (Some refusal) some = refl
  notes_known None some = absurd (true≢false (sym some))

  -- where none is known, what is found is
  pub notes_found : (old new : Option AttributeRefusal) → is_some old ≡ false → Notes a number production None new
      → Notes a number production old new
  notes_found (Some refusal) new none notes = absurd (true≢false none)
  notes_found None new none notes = notes

  -- where a production has none, what is known stays
  pub notes_none : (known : Option AttributeRefusal) → IsAcyclic a production → Notes a number production known known
  notes_none (Some refusal) acyclic = refl
  notes_none None acyclic = acyclic
