-- What makes a value of one kind of one of another: productions with one child, and operations with one argument.
use Rattle.std.specs.Prelude.{◌≡◌, ℕ, List, [], ◌∷◌, Some, slice_get}
use Rattle.wb_base.specs.declared.symbol.Kind.{Kind}
use Rattle.wb_base.specs.declared.symbol.Kind.TheVariants as kind
use Rattle.wb_operations.specs.Operations.{OperationSignature}
use Rattle.wb_values.specs.Signature.{Signature}
use Rattle.wb_explain_mismatches.specs.declared.step.Maker.{Maker}
use Rattle.wb_explain_mismatches.specs.declared.step.Maker.TheVariants as m
use Rattle.wb_explain_mismatches.specs.declared.step.Step.{Step}

-- the production of this number has one child, of this kind, and its left side is that kind
pub record IsUnit (signatures : List Signature) (number : ℕ) (from to : Kind) : Type 0 where
  pub signature : Signature
  pub listed : slice_get signatures number ≡ Some signature
  pub child : signature.children ≡ from ∷ []
  pub left : to ≡ kind.Tree signature.left

-- the operation of this number takes one argument, of this kind, and gives that kind
pub record TurnsInto (operations : List OperationSignature) (number : ℕ) (from to : Kind) : Type 0 where
  pub signature : OperationSignature
  pub listed : slice_get operations number ≡ Some signature
  pub argument : signature.takes ≡ from ∷ []
  pub gives : to ≡ signature.gives

-- the maker makes the second kind of the first
abbrev pub Makes : List Signature → List OperationSignature → Maker → Kind → Kind → Type 0
Makes signatures operations (m.Production number) from to = IsUnit signatures number from to
Makes signatures operations (m.Operation number) from to = TurnsInto operations number from to

-- the steps, the outermost first, make the second kind of the first
abbrev pub Leads : List Signature → List OperationSignature → List Step → Kind → Kind → Type 0
Leads signatures operations [] from to = from ≡ to
Leads signatures operations (step ∷ steps) from to =
    Makes signatures operations step.maker step.from step.to × (step.to ≡ to) × Leads signatures operations steps from step.from
