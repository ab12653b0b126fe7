use Rattle.std.proofs.Common.{List, subst, ◌≡◌}
use Rattle.wb_flow.specs.declared.vertex.Vertex.{Vertex}
use Rattle.wb_flow.specs.Adding.{Adds}
use Rattle.wb_flow.proofs.SetLemmas.{inserted}
use Rattle.wb_flow.proofs.vertex_set.VertexSet.add.Goals as goal

pub invariant_of-self-2 : goal.invariant_of-self-2
invariant_of-self-2 c =
    (inserted c.self.inside.vertices.keys c.insert_full.new.self.keys c.args.vertex c.self.invariant c.in_ok-insert_full.ensures.keys).differ

pub returns : goal.returns
returns c =
    subst (λ (old : List Vertex). Adds old c.insert_full.new.self.keys (λ x. x ≡ c.args.vertex)) c.self.view_is
    (inserted c.self.inside.vertices.keys c.insert_full.new.self.keys c.args.vertex c.self.invariant c.in_ok-insert_full.ensures.keys).adds
