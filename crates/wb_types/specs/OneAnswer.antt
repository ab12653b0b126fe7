-- That the kind rules have at most one answer.
use Rattle.std.specs.Prelude.{ℕ, List}
use Rattle.wb_operations.specs.Operations.{OperationSignature}
use Rattle.wb_syntax_resolved.specs.declared.attribution.AttributionParts.{AttributionParts}
use Rattle.wb_types.specs.Refusals.{CallsUnknown, HasWrongArity, HasWrongKind}
use Rattle.wb_types.specs.Rules.{KindsOk}

-- where the rules hold, no refusal but out of memory is true
pub record RulesExclude (a : AttributionParts) (operations : List OperationSignature) : Type 0 where
  pub unknown : (name : List ℕ) → ¬ CallsUnknown a operations name
  pub arity : (at : ℕ) → ¬ HasWrongArity a operations at
  pub kind : (at : ℕ) → ¬ HasWrongKind a operations at

-- refusals by two rules aren't both true
pub record RefusalsExclude (a : AttributionParts) (operations : List OperationSignature) : Type 0 where
  pub unknown_arity : (name : List ℕ) (at : ℕ) → CallsUnknown a operations name → ¬ HasWrongArity a operations at
  pub unknown_kind : (name : List ℕ) (at : ℕ) → CallsUnknown a operations name → ¬ HasWrongKind a operations at
  pub arity_kind : (at other : ℕ) → HasWrongArity a operations at → ¬ HasWrongKind a operations other

-- the kind rules have at most one answer, but for which true example it shows
pub record HaveOneAnswer (a : AttributionParts) (operations : List OperationSignature) : Type 0 where
  pub rules : KindsOk a operations → RulesExclude a operations
  pub refusals : RefusalsExclude a operations
