use Rattle.std.proofs.Common.{◌<◌, ◌≤◌, length, arith}
use Rattle.wb_lemmas.proofs.Places.{at_within}
use Rattle.wb_flow.specs.Inner.Sources.{KeepsFrom}
use Rattle.wb_flow.proofs.EachLemmas.{each_more, each_all}
use Rattle.wb_flow.proofs.ReadLemmas.{keeps_all, known_production}
use Rattle.wb_flow.proofs.reads.check_reads.Goals as goal

pub vertices-preserved : goal.vertices-preserved
vertices-preserved c =
    let t = c.args.tested.now in
    let within : c.vertices.start < length t.graph.now.vertices = omega arith in
    let (v, at) = at_within t.graph.now.vertices c.vertices.start within in
    each_more t.graph.now.vertices (KeepsFrom t.scope.now.attributes.now t.production.now) c.vertices.start v at c.vertices.invariant
    (c.in_ok-check_from.ensures.ok v at)

pub returns-clause-ok : goal.returns-clause-ok
returns-clause-ok c =
    let t = c.args.tested.now in
    let a = t.scope.now.attributes.now in
    let ended : length t.graph.now.vertices ≤ c.vertices.start = omega arith in
    keeps_all a c.requires.tested.attribution t.production.now (known_production a c.requires.tested.attribution t.number t.production.now c.requires.tested.there)
    t.graph.now c.requires.tested.graph
    (each_all t.graph.now.vertices (KeepsFrom a t.production.now) c.vertices.start ended c.vertices.invariant)
