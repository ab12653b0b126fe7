use Rattle.std.proofs.Common.{◌<◌, ℕ, List, All, length, refl, sym, subst}
use Rattle.wb_flow.specs.declared.vertex.Vertex.{Vertex}
use Rattle.wb_flow.specs.Refusals.{IsFlowCycle}
use Rattle.wb_flow.proofs.ReadLemmas.{known_production}
use Rattle.wb_flow.proofs.WalkLemmas.{cycle_of, places_below, flow_cycle, no_cycle, simple_cycle, zip_in}
use Rattle.wb_flow.proofs.cycles.cycle_of.Goals as goal

pub returns-in_default : goal.returns-in_default
returns-in_default c v reaches =
    let t = c.args.tested.now in
    let a = t.scope.now.attributes.now in
    let known = known_production a c.requires.attribution t.number t.production.now c.requires.there in
    let (list, cycle) = cycle_of a t.production.now t.graph.now c.requires.graph c.requires.attribution known v reaches in
    no_cycle c.len.result t.graph.now.edges c.as_slice.result.now c.as_slice.ensures c.in_ok-order.order c.in_default.field-0 c.in_default.is
    c.in_ok-order.ensures.exact list cycle

pub vertices_at-requires : goal.vertices_at-requires
vertices_at-requires c =
    let t = c.args.tested.now in
    let cycle = simple_cycle c.len.result t.graph.now.edges c.as_slice.result.now c.as_slice.ensures c.in_ok-order.order c.in-Cycle.places
    c.in-Cycle.is c.in_ok-order.ensures.ok in
    let below = places_below t.scope.now.attributes.now t.production.now t.graph.now c.requires.graph c.in-Cycle.places.items cycle in
    subst (λ (z : List ℕ). All (λ place. place < length c.as_slice-2.result.now) z) (sym c.deref.ensures.value)
    (subst (λ (z : List Vertex). All (λ place. place < length z) c.in-Cycle.places.items) (sym c.as_slice-2.ensures) below)

pub returns : goal.returns
returns c =
    let t = c.args.tested.now in
    let cycle = simple_cycle c.len.result t.graph.now.edges c.as_slice.result.now c.as_slice.ensures c.in_ok-order.order c.in-Cycle.places
    c.in-Cycle.is c.in_ok-order.ensures.ok in (
      refl,
      subst (IsFlowCycle t.scope.now.attributes.now t.production.now) (sym c.from_vec.ensures)
          (flow_cycle t.scope.now.attributes.now t.production.now t.graph.now c.requires.graph c.in-Cycle.places.items cycle
          c.in_ok-vertices.vertices.items
          (zip_in t.graph.now.vertices c.as_slice-2.result.now c.as_slice-2.ensures c.in-Cycle.places.items c.deref.result.now c.deref.ensures.value
          c.in_ok-vertices.vertices.items c.in_ok-vertices.ensures)),
    )
