use Rattle.std.proofs.Common.{◌∙◌, ℕ, List, All, length, ap, sym, subst}
use Rattle.wb_graph.specs.Components.{AreComponents}
use Rattle.wb_graph.specs.Graphs.{Edge, IsEdgeBelow}
use Rattle.wb_flow.specs.declared.vertex.Vertex.{Vertex}
use Rattle.wb_flow.proofs.ClosingLemmas.{reach_by}
use Rattle.wb_flow.proofs.StartLemmas.{sets_even}
use Rattle.wb_flow.proofs.closing.sets_of.Goals as goal

pub starts_of-requires-clause-len : goal.starts_of-requires-clause-len
starts_of-requires-clause-len c = c.requires.components.len ∙ ap (λ (z : List Vertex). length z) (sym c.as_slice.ensures)

pub starts_of-requires-clause-below : goal.starts_of-requires-clause-below
starts_of-requires-clause-below c = c.requires.components.below

pub add_reached-requires-clause-edges : goal.add_reached-requires-clause-edges
add_reached-requires-clause-edges c =
    subst (λ (n : ℕ). All (IsEdgeBelow n) c.as_slice-2.result.now) (sym c.requires.components.len)
    (subst (λ (z : List Edge). All (IsEdgeBelow (length c.args.graph.now.vertices)) z) (sym c.as_slice-2.ensures) c.requires.within)

pub add_reached-requires-clause-components : goal.add_reached-requires-clause-components
add_reached-requires-clause-components c =
    subst (λ (n : ℕ). AreComponents n c.as_slice-2.result.now c.args.components.now) (sym c.requires.components.len)
    (subst (λ (z : List Edge). AreComponents (length c.args.graph.now.vertices) z c.args.components.now) (sym c.as_slice-2.ensures)
    c.requires.components)

pub add_reached-requires-clause-len : goal.add_reached-requires-clause-len
add_reached-requires-clause-len c = c.in_ok-sets.ensures.sizes.len

pub add_reached-requires-clause-even : goal.add_reached-requires-clause-even
add_reached-requires-clause-even c =
    sets_even (length c.args.components.now.roots) (length c.args.tops.now) c.in_ok-sets.sets.items c.in_ok-sets.ensures.sizes

pub returns : goal.returns
returns c =
    reach_by c.args.graph.now.vertices c.as_slice.result.now c.as_slice.ensures c.args.graph.now.edges c.as_slice-2.result.now
    c.as_slice-2.ensures c.args.tops.now c.args.components.now c.requires.components c.requires.within c.in_ok-sets.sets.items
    c.add_reached.new.sets.items c.in_ok-sets.ensures c.in_ok-add_reached.ensures
