use Rattle.std.proofs.Common.{ap, map, ◌∙◌, slice_get}
use Rattle.std.proofs.lemmas.List.{take_all}
use Rattle.wb_certify_shown.specs.Shows.{vertex_shown}
use Rattle.wb_certify_shown.proofs.ListLemmas.{mapped_more}
use Rattle.wb_certify_shown.proofs.attributes.vertices_of.Goals as goal

pub vertices-preserved : goal.vertices-preserved
vertices-preserved c =
    let r = c.args.resolved.now in
    mapped_more (vertex_shown r (slice_get r.attributes.productions c.args.number)) c.args.vertices.now c.vertices.vertex-index _ c.in_ok-shown.shown c.vertices.made.items c.push.new.list.items
    c.vertices.invariant c.vertices-test.true c.in_ok-shown.ensures c.in_ok-push.ensures.ok

pub returns : goal.returns
returns c =
    let r = c.args.resolved.now in
    c.from_vec.ensures
    ∙ (c.vertices.invariant ∙ ap (map (vertex_shown r (slice_get r.attributes.productions c.args.number))) (take_all c.vertices.vertex-index c.args.vertices.now c.vertices-test.false))
