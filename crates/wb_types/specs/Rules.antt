-- What the kind rules ask of the expressions in an attribution.
use Rattle.std.specs.Prelude.{◌≡◌, ℕ, List, Some, All, Contains, length, slice_get}
use Rattle.wb_base.specs.declared.symbol.Kind.{Kind}
use Rattle.wb_syntax_expressions.specs.declared.node.Node.TheVariants as n
use Rattle.wb_syntax_expressions.specs.Expression.{nodes_of}
use Rattle.wb_operations.specs.Operations.{OperationSignature, HasOperation}
use Rattle.wb_syntax_resolved.specs.declared.attribution.AttributionParts.{AttributionParts}
use Rattle.wb_syntax_resolved.specs.declared.production.Production.{Production}
use Rattle.wb_syntax_resolved.specs.Expression.{Expression, Node}
use Rattle.wb_values.specs.Signature.{Signature}
use Rattle.wb_types.specs.Expected.{IsExpected}
use Rattle.wb_types.specs.Kinds.{HasKind}

-- the operation that a node calls, where it calls one, is one of these
abbrev pub IsKnown : List OperationSignature → Node → Type 0
IsKnown operations (n.Call name arguments) = HasOperation operations name
IsKnown operations other = Unit {0}

-- a node has as many arguments as its production has children, or as its operation takes; of what isn't there, any number is right
abbrev pub HasArity : AttributionParts → List OperationSignature → Node → Type 0
HasArity a operations (n.Build number children) = (s : Signature) → slice_get a.signatures number ≡ Some s
    → length children ≡ length s.children
HasArity a operations (n.Call name arguments) =
    (number : ℕ) (s : OperationSignature) → slice_get operations number ≡ Some s → s.name ≡ name → length arguments ≡ length s.takes
HasArity a operations other = Unit {0}

-- the nodes are an expression of this kind
abbrev pub IsOfKind : AttributionParts → List OperationSignature → Production → List Node → Kind → Type 0
IsOfKind a operations production nodes is = (e : Expression) × (nodes ≡ nodes_of e) × HasKind a operations production e is

-- each operation that an expression calls is in the table
abbrev pub AreKnown : AttributionParts → List OperationSignature → Type 0
AreKnown a operations = (production : Production) (nodes : List Node) (is : Kind) (offset : ℕ) → Contains a.productions production
    → IsExpected a production nodes is offset → All (IsKnown operations) nodes

-- each production and operation in an expression has the right number of arguments
abbrev pub HaveArities : AttributionParts → List OperationSignature → Type 0
HaveArities a operations = (production : Production) (nodes : List Node) (is : Kind) (offset : ℕ) → Contains a.productions production
    → IsExpected a production nodes is offset → All (HasArity a operations) nodes

-- each expression is of the kind that its place asks for
abbrev pub HaveExpectedKinds : AttributionParts → List OperationSignature → Type 0
HaveExpectedKinds a operations = (production : Production) (nodes : List Node) (is : Kind) (offset : ℕ) → Contains a.productions production
    → IsExpected a production nodes is offset → IsOfKind a operations production nodes is

-- the kind rules hold in the attribution
pub record KindsOk (a : AttributionParts) (operations : List OperationSignature) : Type 0 where
  pub known : AreKnown a operations
  pub arities : HaveArities a operations
  pub kinds : HaveExpectedKinds a operations
