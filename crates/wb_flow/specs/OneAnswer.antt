-- That the tests of flow types and cycles have at most one answer.
use Rattle.std.specs.Prelude.{ℕ, List, Option}
use Rattle.wb_syntax_resolved.specs.declared.attribution.AttributionParts.{AttributionParts}
use Rattle.wb_flow.specs.declared.vertex.Vertex.{Vertex}
use Rattle.wb_flow.specs.Refusals.{FlowsOk, LacksForwardNeed, HasReadOutside, HasFlowCycle}

-- where the rules hold, no refusal but out of memory is true
pub record FlowsExclude (a : AttributionParts) : Type 0 where
  pub lacks : (m x i : ℕ) → ¬ LacksForwardNeed a m x i
  pub reads : (p : ℕ) (x : Option ℕ) (i : ℕ) → ¬ HasReadOutside a p x i
  pub cycle : (p : ℕ) (vertices : List Vertex) → ¬ HasFlowCycle a p vertices

-- refusals by two rules aren't both true
pub record FlowRefusalsExclude (a : AttributionParts) : Type 0 where
  pub lacks_reads : (m x i p : ℕ) (y : Option ℕ) (j : ℕ) → LacksForwardNeed a m x i → ¬ HasReadOutside a p y j
  pub lacks_cycle : (m x i p : ℕ) (vertices : List Vertex) → LacksForwardNeed a m x i → ¬ HasFlowCycle a p vertices
  pub reads_cycle : (p : ℕ) (x : Option ℕ) (i q : ℕ) (vertices : List Vertex) → HasReadOutside a p x i → ¬ HasFlowCycle a q vertices

-- they have at most one answer, but for which true example it shows
pub record FlowsHaveOneAnswer (a : AttributionParts) : Type 0 where
  pub rules : FlowsOk a → FlowsExclude a
  pub refusals : FlowRefusalsExclude a
