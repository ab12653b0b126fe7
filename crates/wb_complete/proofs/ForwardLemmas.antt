-- What the equations for a forwarded tree reach is what the test finds.
use Rattle.std.proofs.Common.{◌≡◌, ◌∙◌, ◌⊎◌, inl, inr, ℕ, true, false, Some, refl, sym, ap, subst}
use Rattle.std.proofs.Common.{slice_get, Contains, Option, None, is_some}
use Rattle.std.specs.Option.{IfNone}
use Rattle.std.specs.Prelude.{option_map}
use Rattle.wb_lemmas.proofs.Elements.{all_contained}
use Rattle.wb_lemmas.proofs.Places.{at_once}
use Rattle.wb_flow_theory.specs.Modular.{IsBridging, ForwardEquationsReach}
use Rattle.wb_flow_theory.specs.Vertices as w
use Rattle.wb_flow_theory.specs.Occurrences.{Goes}
use Rattle.wb_flow_theory.specs.Flow.{Reaches}
use Rattle.wb_flow.specs.declared.refusal.AttributeRefusal.{AttributeRefusal}
use Rattle.wb_flow.specs.declared.refusal.AttributeRefusal.TheVariants as r
use Rattle.wb_flow.specs.declared.vertex.FlowGraph.{FlowGraph}
use Rattle.wb_flow.specs.declared.vertex.Vertex.{Vertex}
use Rattle.wb_flow.specs.declared.vertex.Vertex.TheVariants as code
use Rattle.wb_flow.specs.Graphs.{IsFlowGraph}
use Rattle.wb_flow.specs.Rules.{IsDefined, target_of}
use Rattle.wb_flow.specs.Vertices.{vertex_of, vertex_below}
use Rattle.wb_flow.proofs.ArrowLemmas.{defined_rule, below_rule}
use Rattle.wb_flow.proofs.VertexLemmas.{name_of, name_of_vertex, top_is, direction_is}
use Rattle.wb_flow.proofs.WalkLemmas.{PlaceOf, place_of_vertex, reaches_walk, walk_leads, reaches_from, reaches_to}
use Rattle.wb_complete.specs.Inner.ForwardTests.{is_forward, KeepsForward, IsAllowed, KeepsFrom, RefusesProduction}
use Rattle.wb_complete.specs.ForwardRefusals.{ReadsOutside, HasForwardRead, IsTrueForwardRefusal}
use Rattle.wb_syntax_resolved.specs.declared.attributes.Attribute.{Attribute}
use Rattle.wb_syntax_resolved.specs.declared.attributes.Direction.TheVariants.{Inherited}
use Rattle.wb_syntax_resolved.specs.declared.attribution.AttributionParts.{AttributionParts}
use Rattle.wb_syntax_resolved.specs.declared.equation.Equation.{Equation}
use Rattle.wb_syntax_resolved.specs.declared.equation.Place.TheVariants as place
use Rattle.wb_syntax_resolved.specs.declared.equation.Target.{Target}
use Rattle.wb_syntax_resolved.specs.declared.equation.Target.TheVariants as target
use Rattle.wb_syntax_resolved.specs.declared.production.Production.{Production}
use Rattle.wb_syntax_resolved.specs.Attribution.{IsAttribution}
use Rattle.wb_syntax_resolved.specs.Named.{IsNamedProduction, IsNamedEquation, IsNamedTarget}
use Rattle.wb_flow.proofs.ReachLemmas.{LeadsToTop}

-- what holds where there is no value, and nothing is asked where there is one
pub where_none : {X P : Type 0} (o : Option X) → false ≡ is_some o → IfNone o P → P
where_none None is holds = holds
where_none (Some x) is holds = absurd (cc)

pub where_some : {X : Type 0} (P : Type 0) (o : Option X) → true ≡ is_some o → IfNone o P
where_some P None is = absurd (cc)
where_some P (Some x) is = tt

-- an attribute of the forwarded tree
abbrev at_forward : ℕ → w.Vertex
at_forward x = w.inherited (w.made w.forward) x

-- an equation whose target is for such an attribute is for the forwarded tree
forward_target : (t : Target) (x : ℕ) → target_of t ≡ code.Forward x → is_forward t ≡ true
forward_target (target.Top y) x is = absurd (cc)
forward_target (target.Place (place.Child k) y) x is = absurd (cc)
forward_target (target.Place (place.Local k) y) x is = absurd (cc)
forward_target (target.Forward y) x is = refl

-- where no equation is for the forwarded tree, none is for an attribute of it
pub none_given : (production : Production) → ((e : Equation) → Contains production.equations e → is_forward e.target ≡ false) → (x : ℕ)
    → ¬ IsDefined production (code.Forward x)
none_given production each x (e, listed, is) =
    let bad : false ≡ true = sym (each e listed) ∙ forward_target e.target x is in
    cc

-- such a production keeps to the flow type of its forward
pub keeps_none : (a : AttributionParts) (production : Production) → ((x : ℕ) → ¬ IsDefined production (code.Forward x))
    → KeepsForward a production
keeps_none a production none x i rule reaches = absurd (none x (below_rule production (w.made w.forward) x rule))

-- an attribute of the forwarded tree that an equation is for goes down
named_forward : (a : AttributionParts) (production : Production) (owner : ℕ) (t : Target) → IsNamedTarget a production owner t → (x : ℕ)
    → target_of t ≡ code.Forward x → Goes a Inherited x
named_forward a production owner (target.Top y) named x is = absurd (cc)
named_forward a production owner (target.Place (place.Child k) y) named x is = absurd (cc)
named_forward a production owner (target.Place (place.Local k) y) named x is = absurd (cc)
named_forward a production owner (target.Forward y) (some, seen) x is =
    let same : y ≡ x = cc in
    let own = seen.attribute in
    let goes : Goes a Inherited y = ap (option_map (λ (z : Attribute). z.direction)) own.is ∙ ap Some own.goes in
    subst (Goes a Inherited) same goes

pub defined_goes : (a : AttributionParts) (production : Production) → IsNamedProduction a production → (x : ℕ)
    → IsDefined production (code.Forward x) → Goes a Inherited x
defined_goes a production named x (e, listed, is) =
    let of_equation = all_contained (IsNamedEquation a production) production.equations e named.equations listed in
    named_forward a production e.owner e.target of_equation.target x is

module _ (a : AttributionParts) (is : IsAttribution a) (production : Production) (named : IsNamedProduction a production)
    (graph : FlowGraph) (flow : IsFlowGraph a production graph) where
  -- where each vertex keeps to it, the production does
  pub keeps_all : ((k : ℕ) (vertex : Vertex) → slice_get graph.vertices k ≡ Some vertex → KeepsFrom a production vertex)
      → KeepsForward a production
  keeps_all each x i rule reaches =
      let vertex = reaches_from a production graph flow is named (at_forward x) (w.top_inherited i) reaches in
      let place = place_of_vertex a production graph flow is named (at_forward x) vertex in
      let name : place.name ≡ code.Forward x = sym (name_of_vertex a place.name) ∙ ap name_of place.names in
      each place.place place.name place.at x name i rule reaches

  module _ (start : ℕ) (vertex : Vertex) (at : slice_get graph.vertices start ≡ Some vertex) (x : ℕ) (name : vertex ≡ code.Forward x)
    where
      -- the name is that of the attribute
      names_forward : Goes a Inherited x → vertex_of a vertex ≡ at_forward x
      names_forward goes =
          ap (vertex_of a) name ∙ ap (λ z. vertex_below (w.made w.forward) z x) (direction_is a Inherited x goes)

      -- where all that is reached is allowed, the vertex keeps to it
      pub keeps_from : ((i : ℕ) → LeadsToTop a graph start i → IsAllowed a production x i) → KeepsFrom a production vertex
      keeps_from all y other i rule reaches =
          let equal : code.Forward x ≡ code.Forward y = sym name ∙ other in
          let same : x ≡ y = cc in
          let by = subst (λ z. Reaches a production (at_forward z) (w.top_inherited i)) (sym same) reaches in
          let (_, _, occurs) = reaches_from a production graph flow is named (at_forward x) (w.top_inherited i) by in
          let place : PlaceOf a production graph flow is named (at_forward x) =
          record { place = start; name = vertex; at = at; names = names_forward occurs.goes } in
          let (k, walk) = reaches_walk a production graph flow is named (at_forward x) (w.top_inherited i) place by in
          let top : k.name ≡ code.Top i = sym (name_of_vertex a k.name) ∙ ap name_of k.names in
          let there = reaches_to a production graph flow is named (at_forward x) (w.top_inherited i) by in
          subst (λ z. IsAllowed a production z i) same (all i (there.goes, (k.place, k.at ∙ ap Some top, walk)))

      -- what is reached and isn't allowed is a read outside
      pub reads_outside : Goes a Inherited x → IsDefined production (code.Forward x) → (i : ℕ) → LeadsToTop a graph start i
          → ¬ IsAllowed a production x i → ReadsOutside a production x i
      reads_outside goes defined i (down, (k, there, walk)) lacks =
          by_walk (walk_leads a production graph flow start vertex at k walk) where
            made_of : Reaches a production (vertex_of a vertex) (w.top_inherited i) → ReadsOutside a production x i
            made_of reaches = record {
              rule = defined_rule production (code.Forward x) defined;
              reaches = subst (λ z. Reaches a production z (w.top_inherited i)) (names_forward goes) reaches;
              lacks = λ needs. lacks (inl needs);
              other = λ same. lacks (inr same);
            }

            by_walk : (start ≡ k)
                ⊎ ((u : Vertex) × (slice_get graph.vertices k ≡ Some u) × Reaches a production (vertex_of a vertex) (vertex_of a u))
                → ReadsOutside a production x i
            by_walk (inl same) =
                let equal = at_once graph.vertices k vertex (code.Top i) (subst (λ z. slice_get graph.vertices z ≡ Some vertex) same at) there in
                let bad : code.Forward x ≡ code.Top i = sym name ∙ equal in
                absurd (cc)
            by_walk (inr (u, at_u, reaches)) =
                let same : u ≡ code.Top i = at_once graph.vertices k u (code.Top i) at_u there in
                made_of (subst (Reaches a production (vertex_of a vertex)) (ap (vertex_of a) same ∙ top_is a Inherited i down) reaches)

-- what is reported of a production is reported of the attribution
pub refuses : (a : AttributionParts) (extension number : ℕ) (production : Production) → slice_get a.productions number ≡ Some production
    → IsBridging a extension production → (refusal : AttributeRefusal) → RefusesProduction a number production refusal
    → IsTrueForwardRefusal a extension refusal
refuses a extension number production there bridging (r.ForwardReads shown x i) (same, reads) = record {
  production = production;
  there = subst (λ z. slice_get a.productions z ≡ Some production) (sym same) there;
  bridging = bridging;
  reads = reads;
}
refuses a extension number production there bridging (r.NoMemory error) told = tt
refuses a extension number production there bridging (r.StartInherits _) told = elim told [ ]
refuses a extension number production there bridging (r.NoForward _) told = elim told [ ]
refuses a extension number production there bridging (r.NoEquation _ _) told = elim told [ ]
refuses a extension number production there bridging (r.NoInherited _ _) told = elim told [ ]
refuses a extension number production there bridging (r.LacksForward _ _ _) told = elim told [ ]
refuses a extension number production there bridging (r.Reads _ _ _) told = elim told [ ]
refuses a extension number production there bridging (r.Cycle _ _) told = elim told [ ]

-- where the rule holds, no refusal is true
pub excluded : (a : AttributionParts) (extension number x i : ℕ) → ForwardEquationsReach a extension
    → ¬ HasForwardRead a extension number x i
excluded a extension number x i rule has =
    elim (rule number has.production has.there has.bridging x i has.reads.rule has.reads.reaches) [
      | inl needs ↦ has.reads.lacks needs
      | inr same ↦ has.reads.other same
    ]
