-- What a production has and an operation takes and gives.
use Rattle.std.proofs.Common.{◌≡◌, ◌<◌, ℕ, List, length, slice_get, IfSome, sym, ap, subst, ◌∙◌, ◌∷◌, []}
use Rattle.wb_lemmas.proofs.Places.{at_within}
use Rattle.wb_base.specs.declared.symbol.Kind.{Kind}
use Rattle.wb_base.specs.declared.symbol.Kind.TheVariants as kind
use Rattle.wb_operations.specs.Operations.{OperationSignature, IsOperation}
use Rattle.wb_values.specs.Signature.{Signature}
use Rattle.wb_types.proofs.OperationLemmas.{fact_at, operation_at}
use Rattle.wb_explain_mismatches.specs.Wrong.{HasChildren, TakesKinds}
use Rattle.wb_explain_mismatches.specs.Steps.{IsUnit, TurnsInto}
use Rattle.wb_explain_mismatches.specs.Inner.Known.{AreAt, BuildsKind, CallsKind}

-- the children of a production
pub has_children : (signatures : List Signature) (number : ℕ) (children : List Kind) → number < length signatures
    → IfSome (slice_get signatures number) (λ (s : Signature). children ≡ s.children) → HasChildren signatures number children
has_children signatures number children within are =
    let (s, at) = at_within signatures number within in
    record {
      signature = s;
      listed = at;
      are = fact_at (slice_get signatures number) (λ (z : Signature). children ≡ z.children) s are at;
    }

-- the kinds that an operation takes
pub takes_kinds : (operations : List OperationSignature) (name : List ℕ) (number : ℕ) (takes : List Kind)
    → IsOperation operations name number → IfSome (slice_get operations number) (λ (s : OperationSignature). takes ≡ s.takes)
    → TakesKinds operations name takes
takes_kinds operations name number takes found are =
    let (s, at, named) = operation_at operations name number found in
    record {
      number = number;
      signature = s;
      listed = at;
      named = named;
      are = fact_at (slice_get operations number) (λ (z : OperationSignature). takes ≡ z.takes) s are at;
    }

-- a tree of a production on parts of the kinds of its children
pub builds : (signatures : List Signature) (kinds : List Kind) (number : ℕ) (places : List ℕ) (children : List Kind) (left : ℕ)
    → number < length signatures → IfSome (slice_get signatures number) (λ (s : Signature). children ≡ s.children)
    → IfSome (slice_get signatures number) (λ (s : Signature). left ≡ s.left) → AreAt kinds places children
    → BuildsKind signatures kinds number places (kind.Tree left)
builds signatures kinds number places children left within are left_is parts =
    let (s, at) = at_within signatures number within in
    record {
      signature = s;
      listed = at;
      parts = subst (AreAt kinds places)
          (fact_at (slice_get signatures number) (λ (z : Signature). children ≡ z.children) s are at) parts;
      whole = ap kind.Tree (fact_at (slice_get signatures number) (λ (z : Signature). left ≡ z.left) s left_is at);
    }

-- a call of an operation on parts of the kinds that it takes
pub calls : (operations : List OperationSignature) (kinds : List Kind) (name : List ℕ) (arguments : List ℕ) (number : ℕ)
    (takes : List Kind) (gives : Kind) → IsOperation operations name number
    → IfSome (slice_get operations number) (λ (s : OperationSignature). takes ≡ s.takes)
    → IfSome (slice_get operations number) (λ (s : OperationSignature). gives ≡ s.gives)
    → AreAt kinds arguments takes → CallsKind operations kinds name arguments gives
calls operations kinds name arguments number takes gives found takes_is gives_is parts =
    let (s, at, named) = operation_at operations name number found in
    record {
      number = number;
      signature = s;
      listed = at;
      named = named;
      parts = subst (AreAt kinds arguments)
          (fact_at (slice_get operations number) (λ (z : OperationSignature). takes ≡ z.takes) s takes_is at) parts;
      whole = fact_at (slice_get operations number) (λ (z : OperationSignature). gives ≡ z.gives) s gives_is at;
    }

-- a production with one child
pub unit : (signatures : List Signature) (number left : ℕ) (children : List Kind) (from to : Kind) → number < length signatures
    → IfSome (slice_get signatures number) (λ (s : Signature). children ≡ s.children)
    → IfSome (slice_get signatures number) (λ (s : Signature). left ≡ s.left) → kind.Tree left ≡ to → children ≡ from ∷ []
    → IsUnit signatures number from to
unit signatures number left children from to within are left_is same one =
    let (s, at) = at_within signatures number within in
    record {
      signature = s;
      listed = at;
      child = sym (fact_at (slice_get signatures number) (λ (z : Signature). children ≡ z.children) s are at) ∙ one;
      left = sym same ∙ ap kind.Tree (fact_at (slice_get signatures number) (λ (z : Signature). left ≡ z.left) s left_is at);
    }

-- an operation with one argument
pub turns : (operations : List OperationSignature) (number : ℕ) (takes : List Kind) (gives from to : Kind) → number < length operations
    → IfSome (slice_get operations number) (λ (s : OperationSignature). takes ≡ s.takes)
    → IfSome (slice_get operations number) (λ (s : OperationSignature). gives ≡ s.gives) → gives ≡ to → takes ≡ from ∷ []
    → TurnsInto operations number from to
turns operations number takes gives from to within are gives_is same one =
    let (s, at) = at_within operations number within in
    record {
      signature = s;
      listed = at;
      argument = sym (fact_at (slice_get operations number) (λ (z : OperationSignature). takes ≡ z.takes) s are at) ∙ one;
      gives = sym same ∙ fact_at (slice_get operations number) (λ (z : OperationSignature). gives ≡ z.gives) s gives_is at;
    }
