-- Which vertex of the definitions a vertex names: one that names an attribute is of the kind that the attribute's direction says.
use Rattle.std.specs.Prelude.{ℕ, Option, None, Some, option_map, slice_get}
use Rattle.wb_flow_theory.specs.Vertices as a
use Rattle.wb_flow.specs.declared.vertex.Vertex.{Vertex}
use Rattle.wb_flow.specs.declared.vertex.Vertex.TheVariants as v
use Rattle.wb_syntax_resolved.specs.declared.attributes.Attribute.{Attribute}
use Rattle.wb_syntax_resolved.specs.declared.attributes.Direction.{Direction}
use Rattle.wb_syntax_resolved.specs.declared.attributes.Direction.TheVariants.{Synthesized, Inherited}
use Rattle.wb_syntax_resolved.specs.declared.attribution.AttributionParts.{AttributionParts}

-- which way the values of an attribute go; those of one that isn't there go down
abbrev pub known_direction : Option Direction → Direction
known_direction None = Inherited
known_direction (Some direction) = direction

abbrev pub direction_of : AttributionParts → ℕ → Direction
direction_of a number = known_direction (option_map (λ (r : Attribute). r.direction) (slice_get a.attributes number))

-- an attribute of the top that goes this way
abbrev pub top_vertex : Direction → ℕ → a.Vertex
top_vertex Synthesized number = a.top_synthesized number
top_vertex Inherited number = a.top_inherited number

-- an attribute one step down that goes this way
abbrev pub vertex_below : a.Step → Direction → ℕ → a.Vertex
vertex_below s Synthesized number = a.synthesized s number
vertex_below s Inherited number = a.inherited s number

-- the vertex that is named
abbrev pub vertex_of : AttributionParts → Vertex → a.Vertex
vertex_of p (v.Top number) = top_vertex (direction_of p number) number
vertex_of p (v.Child k number) = vertex_below (a.child k) (direction_of p number) number
vertex_of p (v.Local x number) = vertex_below (a.made (a.local x)) (direction_of p number) number
vertex_of p (v.Forward number) = vertex_below (a.made a.forward) (direction_of p number) number
vertex_of p (v.LocalTree x) = a.tree_of (a.local x)
vertex_of p v.ForwardTree = a.tree_of a.forward
