use Rattle.std.proofs.Common.{◌<◌, ℕ, length, get_or, arith}
use Rattle.std.proofs.lemmas.Option.{slice_get-get_or}
use Rattle.wb_graph.proofs.MarkLemmas.{closes_none, closes_more, closes_all}
use Rattle.wb_graph.proofs.groups.close_all.Goals as goal

pub vertices-init : goal.vertices-init
vertices-init c = record { closes = closes_none c.args.vertices.now c.args.number c.args.marks.now }

pub vertices-preserved : goal.vertices-preserved
vertices-preserved c =
    let vertex : ℕ = get_or c.args.vertices.now c.vertices.vertex-index 0 in
    let below : vertex < length c.args.marks.now = c.requires c.vertices.vertex-index 0 c.vertices-test.true in
    record {
      closes = closes_more c.args.vertices.now c.vertices.vertex-index c.args.number vertex c.args.marks.now c.vertices.marks
          (slice_get-get_or c.args.vertices.now c.vertices.vertex-index 0 c.vertices-test.true)
          (omega (arith, below, c.vertices.invariant.closes.len)) c.vertices.invariant.closes;
    }

pub returns : goal.returns
returns c = closes_all c.args.vertices.now c.vertices.vertex-index c.args.number c.args.marks.now c.vertices.marks c.vertices-test.false
    c.vertices.invariant.closes
