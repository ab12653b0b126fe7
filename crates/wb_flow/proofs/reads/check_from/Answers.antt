use Rattle.std.proofs.Common.{Contains, get_or, refl, subst}
use Rattle.wb_lemmas.proofs.Places.{at_once}
use Rattle.wb_flow.specs.declared.vertex.Vertex.TheVariants.{Top}
use Rattle.wb_flow.specs.Inner.Sources.{KeepsFrom}
use Rattle.wb_flow.proofs.ReachLemmas.{has_set, beyond_leads, none_beyond}
use Rattle.wb_flow.proofs.ReadLemmas.{no_source, keeps_from, reads_outside, known_production, read_vertex_at}
use Rattle.wb_flow.proofs.reads.check_from.Goals as goal

pub returns-in_default-clause-ok : goal.returns-in_default-clause-ok
returns-in_default-clause-ok c vertex at =
    let t = c.args.tested.now in
    let v = get_or c.as_slice.result.now c.args.start (Top 0) in
    let there = read_vertex_at c.as_slice.result.now t.graph.now.vertices c.as_slice.ensures c.args.start (Top 0) c.requires.start in
    subst (KeepsFrom t.scope.now.attributes.now t.production.now) (at_once t.graph.now.vertices c.args.start v vertex there at)
    (no_source t.scope.now.attributes.now t.production.now v c.in_default.ensures.none)

pub first_outside-found-requires-clause-place : goal.first_outside-found-requires-clause-place
first_outside-found-requires-clause-place c =
    let t = c.args.tested.now in
    has_set t.scope.now.attributes.now t.graph.now c.args.reach.now c.requires.reach c.args.start c.requires.start

pub first_outside-found-requires-clause-allowed : goal.first_outside-found-requires-clause-allowed
first_outside-found-requires-clause-allowed c = c.in_ok-allowed.ensures.len

pub returns-in_default-found-clause-ok : goal.returns-in_default-found-clause-ok
returns-in_default-found-clause-ok c vertex at =
    let t = c.args.tested.now in
    let a = t.scope.now.attributes.now in
    let v = get_or c.as_slice.result.now c.args.start (Top 0) in
    let there = read_vertex_at c.as_slice.result.now t.graph.now.vertices c.as_slice.ensures c.args.start (Top 0) c.requires.start in
    let known = known_production a c.requires.tested.attribution t.number t.production.now c.requires.tested.there in
    let listed = c.flow_type-listed.result.now in
    subst (KeepsFrom a t.production.now) (at_once t.graph.now.vertices c.args.start v vertex there at)
    (keeps_from a c.requires.tested.attribution t.production.now known t.graph.now c.requires.tested.graph c.args.start v there c.in-Some.source
    c.in-Some.ensures.some listed c.flow_type-listed.ensures
    (none_beyond a t.graph.now c.args.reach.now c.requires.reach c.args.start (Contains listed) c.in_ok-allowed.allowed c.in_ok-allowed.ensures
    c.requires.start c.in_default-found.ensures.none))

pub returns-clause-refused : goal.returns-clause-refused
returns-clause-refused c =
    let t = c.args.tested.now in
    let a = t.scope.now.attributes.now in
    let v = get_or c.as_slice.result.now c.args.start (Top 0) in
    let there = read_vertex_at c.as_slice.result.now t.graph.now.vertices c.as_slice.ensures c.args.start (Top 0) c.requires.start in
    let known = known_production a c.requires.tested.attribution t.number t.production.now c.requires.tested.there in
    let listed = c.flow_type-listed.result.now in
    let i = c.in-Some-found.inherited in
    let (leads, lacks) = beyond_leads a t.graph.now c.args.reach.now c.requires.reach c.args.start (Contains listed) c.in_ok-allowed.allowed
    c.in_ok-allowed.ensures i c.in-Some-found.ensures.some in (
      refl,
      reads_outside a c.requires.tested.attribution t.production.now known t.graph.now c.requires.tested.graph c.args.start v there
          c.in-Some.source c.in-Some.ensures.some listed c.flow_type-listed.ensures i leads lacks,
    )
