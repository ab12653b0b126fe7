-- The fact that the closures of a table answer what is meant.
use Rattle.std.specs.Prelude.{◌≡◌, ◌+◌, ◌<◌, ℕ, List, Some, Result, length, slice_get}
use Rattle.std.specs.Borrow.{Bor}
use Rattle.wb_values.specs.Tree.{Plain}
use Rattle.wb_values.specs.declared.value.Value.{Value}
use Rattle.wb_operations.specs.declared.meaning.OperationRefusal.{OperationRefusal}
use Rattle.wb_operations.specs.Given.{Given, FitKinds, IsGiven, plains_of}
use Rattle.wb_operations.specs.Operations.{OperationSignature, KeepsKinds}
use Rattle.wb_operations.specs.Standard.{standard, standard_signature}

-- when a closure may be called on values
abbrev pub Pre : Type 1
Pre = Bor (List Value) → Type 0

-- what a closure may answer to values
abbrev pub Post : Type 1
Post = Bor (List Value) → Result Value OperationRefusal → Type 0

-- the closure may be called on each list that fits, and answers what its operation means
pub record KeepsOne (s : OperationSignature) (given : List Plain → Given) (pre : Pre) (post : Post) : Type 0 where
  pub callable : (vs : Bor (List Value)) → FitKinds s.takes vs.now → pre vs
  pub answers : (vs : Bor (List Value)) (r : Result Value OperationRefusal) → FitKinds s.takes vs.now → post vs r
      → IsGiven (given (plains_of vs.now)) r

-- the operation of this number is the standard one of the same number
pub record IsBuiltIn (signatures : List OperationSignature) (meaning : ℕ → List Plain → Given) (number : ℕ) : Type 0 where
  pub one : number < 16
  pub signature : slice_get signatures number ≡ Some (standard_signature number)
  pub means : (values : List Plain) → meaning number values ≡ standard number values

-- the first operations, so many of them, are the standard ones, each other has a closure that keeps its meaning, and each gives its kind
pub record IsKept {R : Type 0} (signatures : List OperationSignature) (built_in : ℕ) (runs : List R) (meaning : ℕ → List Plain → Given)
    (pre : R → Pre) (post : R → Post) : Type 0 where
  pub counted : built_in + length runs ≡ length signatures
  pub standard_ones : (number : ℕ) → number < built_in → IsBuiltIn signatures meaning number
  pub each : (k : ℕ) (s : OperationSignature) (run : R) → slice_get signatures (built_in + k) ≡ Some s → slice_get runs k ≡ Some run
      → KeepsOne s (meaning (built_in + k)) (pre run) (post run)
  pub kinds : KeepsKinds signatures meaning
