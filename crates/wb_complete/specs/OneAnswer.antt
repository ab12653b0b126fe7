-- That the tests of completeness have at most one answer.
use Rattle.std.specs.Prelude.{ℕ, Option}
use Rattle.wb_flow.specs.declared.vertex.Vertex.{Vertex}
use Rattle.wb_syntax_resolved.specs.declared.attribution.AttributionParts.{AttributionParts}
use Rattle.wb_complete.specs.Refusals.{CompleteOk, StartHas, LacksForward, LacksEquation, LacksInherited}

-- where the rules hold, no refusal but out of memory is true
pub record CompleteExcludes (a : AttributionParts) (start extension : Option ℕ) : Type 0 where
  pub start_inherits : (x : ℕ) → ¬ StartHas a start x
  pub forwards : (p : ℕ) → ¬ LacksForward a start extension p
  pub top : (p x : ℕ) → ¬ LacksEquation a start extension p x
  pub below : (p : ℕ) (v : Vertex) → ¬ LacksInherited a start extension p v

-- refusals by two rules aren't both true
pub record CompletenessRefusalsExclude (a : AttributionParts) (start extension : Option ℕ) : Type 0 where
  pub start_forward : (x p : ℕ) → StartHas a start x → ¬ LacksForward a start extension p
  pub start_top : (x p y : ℕ) → StartHas a start x → ¬ LacksEquation a start extension p y
  pub start_below : (x p : ℕ) (v : Vertex) → StartHas a start x → ¬ LacksInherited a start extension p v
  pub forward_top : (p q y : ℕ) → LacksForward a start extension p → ¬ LacksEquation a start extension q y
  pub forward_below : (p q : ℕ) (v : Vertex) → LacksForward a start extension p → ¬ LacksInherited a start extension q v
  pub top_below : (p x q : ℕ) (v : Vertex) → LacksEquation a start extension p x → ¬ LacksInherited a start extension q v

-- they have at most one answer, but for which true example it shows
pub record CompletenessHasOneAnswer (a : AttributionParts) (start extension : Option ℕ) : Type 0 where
  pub rules : CompleteOk a start extension → CompleteExcludes a start extension
  pub refusals : CompletenessRefusalsExclude a start extension
