-- What is said of equations that are missing.
use Rattle.std.specs.Prelude.{◌≡◌, ◌++◌, ◌↔◌, ℕ, List, Contains, slice_get}
use lib.Chars.{codes}
use Rattle.wb_complete.specs.Refusals.{LacksTop}
use Rattle.wb_flow_theory.specs.Modular.{IsProduction}
use Rattle.wb_syntax_resolved.specs.declared.attribution.AttributionParts.{AttributionParts}
use Rattle.wb_syntax_resolved.specs.declared.production.Production.{Production}
use Rattle.wb_explain_flows_lists.specs.declared.missing.Missing.{Missing}
use Rattle.wb_explain_flows_lists.specs.Lists.{Lists}
use Rattle.wb_explain_flows_lists.specs.Names.{own_attribute, own_production}

-- the production lacks an equation for the synthesized attribute of its left side
abbrev pub IsMissing : AttributionParts → Missing → Type 0
IsMissing a m = (p : Production) × IsProduction a m.production p × LacksTop a p m.attribute

-- an aspect of the production with that equation, whose right side is left out
abbrev pub aspect_text : AttributionParts → Missing → List ℕ
aspect_text a m =
    codes "    aspect " ++ own_production (slice_get a.productions m.production) ++ codes " { top."
    ++ own_attribute (slice_get a.attributes m.attribute) ++ codes " = ..; }"

-- a line with that aspect
abbrev pub IsAspect : AttributionParts → Missing → List ℕ → Type 0
IsAspect a m line = (more : List ℕ) × (line ≡ aspect_text a m ++ more)

-- every such equation that is missing is listed, and nothing else is
pub record SaysMissing (a : AttributionParts) (old new : List ℕ) : Type 0 where
  pub found : List Missing
  pub exactly : (m : Missing) → Contains found m ↔ IsMissing a m
  pub lists : Lists (IsAspect a) found old new
