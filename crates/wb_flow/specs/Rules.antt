-- Which equations are for a vertex.
use Rattle.std.specs.Prelude.{◌≡◌, ℕ, Contains}
use Rattle.wb_flow.specs.declared.vertex.Vertex.{Vertex}
use Rattle.wb_flow.specs.declared.vertex.Vertex.TheVariants as v
use Rattle.wb_syntax_resolved.specs.declared.equation.Equation.{Equation}
use Rattle.wb_syntax_resolved.specs.declared.equation.Place.{Place}
use Rattle.wb_syntax_resolved.specs.declared.equation.Place.TheVariants as place
use Rattle.wb_syntax_resolved.specs.declared.equation.Target.{Target}
use Rattle.wb_syntax_resolved.specs.declared.equation.Target.TheVariants as target
use Rattle.wb_syntax_resolved.specs.declared.production.Production.{Production}

-- an attribute of a child or local
abbrev pub attribute_at : Place → ℕ → Vertex
attribute_at (place.Child k) number = v.Child k number
attribute_at (place.Local x) number = v.Local x number

-- what an equation of this target defines
abbrev pub target_of : Target → Vertex
target_of (target.Top number) = v.Top number
target_of (target.Place at number) = attribute_at at number
target_of (target.Forward number) = v.Forward number

-- an equation of the production is for this vertex
abbrev pub IsDefined : Production → Vertex → Type 0
IsDefined production vertex = (e : Equation) × Contains production.equations e × (target_of e.target ≡ vertex)
