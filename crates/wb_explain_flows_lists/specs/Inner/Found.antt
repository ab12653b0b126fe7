-- What each search for missing equations adds.
use Rattle.std.specs.Prelude.{◌≡◌, ℕ, List, Contains}
use Rattle.wb_complete.specs.Refusals.{LacksTop}
use Rattle.wb_flow.specs.declared.vertex.Vertex.{Vertex}
use Rattle.wb_flow.specs.declared.vertex.Vertex.TheVariants as v
use Rattle.wb_flow_theory.specs.Occurrences.{Goes}
use Rattle.wb_syntax_resolved.specs.declared.attributes.Direction.TheVariants.{Synthesized}
use Rattle.wb_syntax_resolved.specs.declared.attribution.AttributionParts.{AttributionParts}
use Rattle.wb_syntax_resolved.specs.declared.production.Production.{Production}
use Rattle.wb_explain_flows_lists.specs.declared.missing.Missing.{Missing}

-- an equation that the production of this number lacks
abbrev pub IsMissingOf : AttributionParts → ℕ → Production → Missing → Type 0
IsMissingOf a number p m = (m.production ≡ number) × LacksTop a p m.attribute

-- this one, where its attribute is synthesized and isn't among what has equations
abbrev pub IsMissingFor : AttributionParts → List Vertex → Missing → Missing → Type 0
IsMissingFor a defined one m = (m ≡ one) × Goes a Synthesized one.attribute × ¬ Contains defined (v.Top one.attribute)
