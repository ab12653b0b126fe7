-- Chains of vertices each of which needs the next.
use Rattle.std.specs.Prelude.{◌≡◌, List, [], ◌∷◌}
use Rattle.wb_flow.specs.Graphs.{IsNeededBy}
use Rattle.wb_flow.specs.declared.vertex.Vertex.{Vertex}
use Rattle.wb_syntax_resolved.specs.declared.attribution.AttributionParts.{AttributionParts}
use Rattle.wb_syntax_resolved.specs.declared.production.Production.{Production}
use Rattle.wb_explain_flows.specs.declared.chain.Step.{Step}

-- the steps lead from one vertex to another: the first begins there, and each next one where the one before ends
abbrev pub IsChain : Vertex → Vertex → List Step → Type 0
IsChain from to [] = from ≡ to
IsChain from to (s ∷ steps) = (s.from ≡ from) × IsChain s.to to steps

-- in the production's flow graph, where the step begins needs where it ends
abbrev pub IsNeeded : AttributionParts → Production → Step → Type 0
IsNeeded a production step = IsNeededBy a production step.from step.to
