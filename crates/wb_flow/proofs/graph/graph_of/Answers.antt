use Rattle.std.proofs.Common.{List, subst, sym, ◌∙◌, Contains}
use Rattle.std.specs.Prelude.{◌↔◌}
use Rattle.wb_flow.specs.declared.positions.TreeAt.{TreeAt}
use Rattle.wb_flow.specs.Inner.Adding.{SomeOf}
use Rattle.wb_flow.specs.Inner.Positions.{HasTree, IsVertexOf}
use Rattle.wb_flow.proofs.graph.graph_of.Goals as goal

pub graph_over-requires-clause-trees : goal.graph_over-requires-clause-trees
graph_over-requires-clause-trees c t =
    subst (λ (z : List TreeAt). Contains z t ↔ HasTree c.args.production.now t) (sym c.deref-2.ensures.value) (c.in_ok-trees.ensures t)

pub graph_over-requires-clause-vertices : goal.graph_over-requires-clause-vertices
graph_over-requires-clause-vertices c v =
    subst (λ (z : List TreeAt). Contains c.in_ok-vertices.vertices v ↔ SomeOf z (IsVertexOf c.args.scope.now.attributes.now) v)
    (c.deref.ensures.value ∙ sym c.deref-2.ensures.value) (c.in_ok-vertices.ensures v)
