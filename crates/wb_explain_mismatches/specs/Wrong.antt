-- What is wrong in an expression: a part of another kind than is wanted there, or another number of arguments.
use Rattle.std.specs.Prelude.{◌≡◌, ◌≢◌, ◌+◌, ℕ, zero, suc, List, Some, length, slice_get}
use Rattle.wb_base.specs.declared.symbol.Kind.{Kind}
use Rattle.wb_base.specs.declared.symbol.Kind.TheVariants as kind
use Rattle.wb_syntax_expressions.specs.declared.node.Node.TheVariants as n
use Rattle.wb_syntax_expressions.specs.Places.{HasNode, Stands, parts_of}
use Rattle.wb_operations.specs.Operations.{OperationSignature}
use Rattle.wb_syntax_resolved.specs.declared.attribution.AttributionParts.{AttributionParts}
use Rattle.wb_syntax_resolved.specs.declared.production.Production.{Production}
use Rattle.wb_syntax_resolved.specs.Expression.{Expression, Node}
use Rattle.wb_values.specs.Signature.{Signature}
use Rattle.wb_types.specs.Kinds.{HasKind}

-- the expression at this place of the nodes is of this kind
pub record IsKindAt (a : AttributionParts) (operations : List OperationSignature) (production : Production) (nodes : List Node) (at : ℕ)
    (is : Kind) : Type 0 where
  pub expression : Expression
  pub stands : Stands nodes at expression
  pub kind : HasKind a operations production expression is

-- the production of this number has these children
pub record HasChildren (signatures : List Signature) (number : ℕ) (children : List Kind) : Type 0 where
  pub signature : Signature
  pub listed : slice_get signatures number ≡ Some signature
  pub are : children ≡ signature.children

-- the operation of this name takes these kinds
pub record TakesKinds (operations : List OperationSignature) (name : List ℕ) (takes : List Kind) : Type 0 where
  pub number : ℕ
  pub signature : OperationSignature
  pub listed : slice_get operations number ≡ Some signature
  pub named : signature.name ≡ name
  pub are : takes ≡ signature.takes

-- a node of arguments takes these kinds, one for each argument
abbrev pub Takes : AttributionParts → List OperationSignature → Node → List Kind → Type 0
Takes a operations (n.Build number children) kinds = HasChildren a.signatures number kinds
Takes a operations (n.Call name arguments) kinds = TakesKinds operations name kinds
Takes a operations node kinds = ⊥

-- a node wants its part of this number, from 0 on, to be of this kind: an argument as is taken, the condition of an if as a truth value, and
-- what is after else as what is after then
abbrev pub Wants : AttributionParts → List OperationSignature → Production → List Node → Node → ℕ → Kind → Type 0
Wants a operations production nodes (n.Build number children) part is =
    (kinds : List Kind) × HasChildren a.signatures number kinds × (slice_get kinds part ≡ Some is)
Wants a operations production nodes (n.Call name arguments) part is =
    (kinds : List Kind) × TakesKinds operations name kinds × (slice_get kinds part ≡ Some is)
Wants a operations production nodes (n.If condition holds fails) zero is = is ≡ kind.Bool
Wants a operations production nodes (n.If condition holds fails) (suc part) is = IsKindAt a operations production nodes holds is
Wants a operations production nodes node part is = ⊥

-- the node is at this place, its part of this number is at that place, and is of another kind than is wanted
pub record IsWrongPart (a : AttributionParts) (operations : List OperationSignature) (production : Production) (nodes : List Node)
    (node : Node) (number : ℕ) (wanted found : Kind) : Type 0 where
  pub at : ℕ
  pub has : HasNode nodes at node
  pub part : ℕ
  pub listed : slice_get (parts_of node) number ≡ Some part
  pub wants : Wants a operations production nodes node number wanted
  pub found_is : IsKindAt a operations production nodes part found
  pub differ : found ≢ wanted

-- the whole is of this kind, and another is wanted
pub record IsWrongWhole (a : AttributionParts) (operations : List OperationSignature) (production : Production) (nodes : List Node)
    (wanted found : Kind) : Type 0 where
  pub at : ℕ
  pub last : at + 1 ≡ length nodes
  pub found_is : IsKindAt a operations production nodes at found
  pub differ : found ≢ wanted

-- the node is among the nodes, and takes another number of arguments than it has
pub record IsWrongCount (a : AttributionParts) (operations : List OperationSignature) (nodes : List Node) (node : Node) (takes : ℕ)
    : Type 0 where
  pub at : ℕ
  pub has : HasNode nodes at node
  pub kinds : List Kind
  pub taken : Takes a operations node kinds
  pub count : length kinds ≡ takes
  pub differ : length (parts_of node) ≢ takes
