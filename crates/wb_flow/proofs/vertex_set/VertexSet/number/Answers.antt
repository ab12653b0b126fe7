use Rattle.std.proofs.Common.{◌≡◌, ◌∙◌, List, Some, slice_get, sym, subst}
use Rattle.wb_flow.specs.declared.vertex.Vertex.{Vertex}
use Rattle.wb_flow.proofs.SetLemmas.{position_at}
use Rattle.wb_flow.proofs.vertex_set.VertexSet.number.Goals as goal

pub returns-clause-at : goal.returns-clause-at
returns-clause-at c =
    subst (λ (vertices : List Vertex). slice_get vertices c.unwrap.result ≡ Some c.args.vertex) c.self.view_is
    (position_at c.self.inside.vertices.keys c.args.vertex c.unwrap.result (sym c.get_index_of.ensures.index ∙ c.unwrap.ensures))
