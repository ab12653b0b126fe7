use Rattle.std.proofs.Common.{◌≡◌, List, Contains, Some, slice_get, subst}
use Rattle.std.specs.Prelude.{IfSome, IfNone}
use Rattle.wb_flow.specs.declared.vertex.Vertex.{Vertex}
use Rattle.wb_flow.proofs.SetLemmas.{find_some, find_none}
use Rattle.wb_flow.proofs.vertex_set.VertexSet.find.Goals as goal

pub returns-clause-some : goal.returns-clause-some
returns-clause-some c =
    subst (λ (vertices : List Vertex). IfSome c.get_index_of.result (λ number. slice_get vertices number ≡ Some c.args.vertex))
    c.self.view_is (find_some c.self.inside.vertices.keys c.args.vertex c.get_index_of.result c.get_index_of.ensures.index)

pub returns-clause-none : goal.returns-clause-none
returns-clause-none c =
    subst (λ (vertices : List Vertex). IfNone c.get_index_of.result (¬ Contains vertices c.args.vertex)) c.self.view_is
    (find_none c.self.inside.vertices.keys c.args.vertex c.get_index_of.result c.get_index_of.ensures.found)
