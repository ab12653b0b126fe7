-- The kind of a node by the kinds of its parts, where kinds are kept by place and a node without one has None.
use Rattle.std.specs.Prelude.{◌≡◌, ◌<◌, ◌↔◌, ℕ, List, Option, Some, length, slice_get}
use Rattle.wb_base.specs.declared.symbol.Kind.{Kind}
use Rattle.wb_base.specs.declared.symbol.Kind.TheVariants as kind
use Rattle.wb_syntax_expressions.specs.declared.node.Node.TheVariants as n
use Rattle.wb_syntax_expressions.specs.Places.{Stands}
use Rattle.wb_operations.specs.Operations.{OperationSignature}
use Rattle.wb_syntax_resolved.specs.declared.attribution.AttributionParts.{AttributionParts}
use Rattle.wb_syntax_resolved.specs.declared.production.ChildKind.TheVariants as child
use Rattle.wb_syntax_resolved.specs.declared.production.Production.{Production}
use Rattle.wb_syntax_resolved.specs.Expression.{Expression, Node}
use Rattle.wb_syntax_resolved.specs.Visible.{kind_at}
use Rattle.wb_values.specs.Signature.{Signature}
use Rattle.wb_types.specs.Kinds.{IsAttributeKind, HasKind}

-- the part at this place is of this kind
abbrev pub IsAt : List (Option Kind) → ℕ → Kind → Type 0
IsAt kinds at is = slice_get kinds at ≡ Some (Some is)

-- the parts at these places are of these kinds, one by one
pub record AreAt (kinds : List (Option Kind)) (places : List ℕ) (are : List Kind) : Type 0 where
  pub count : length places ≡ length are
  pub each : (i at : ℕ) (is : Kind) → slice_get places i ≡ Some at → slice_get are i ≡ Some is → IsAt kinds at is

-- a node that builds a tree of this production
pub record BuildsKind (signatures : List Signature) (kinds : List (Option Kind)) (number : ℕ) (places : List ℕ) (is : Kind) : Type 0 where
  pub signature : Signature
  pub listed : slice_get signatures number ≡ Some signature
  pub parts : AreAt kinds places signature.children
  pub whole : is ≡ kind.Tree signature.left

-- a node that calls the operation of this name
pub record CallsKind (operations : List OperationSignature) (kinds : List (Option Kind)) (name : List ℕ) (places : List ℕ)
    (is : Kind) : Type 0 where
  pub number : ℕ
  pub signature : OperationSignature
  pub listed : slice_get operations number ≡ Some signature
  pub named : signature.name ≡ name
  pub parts : AreAt kinds places signature.takes
  pub whole : is ≡ signature.gives

-- the kind of a node by the kinds of its parts
abbrev pub NodeHasKind : AttributionParts → List OperationSignature → Production → List (Option Kind) → Node → Kind → Type 0
NodeHasKind a operations production kinds (n.Int z) is = is ≡ kind.Int
NodeHasKind a operations production kinds (n.Text text) is = is ≡ kind.Text
NodeHasKind a operations production kinds (n.Bool truth) is = is ≡ kind.Bool
NodeHasKind a operations production kinds (n.Label label) is = kind_at production label ≡ Some (child.Value is)
NodeHasKind a operations production kinds (n.Read label attribute) is = IsAttributeKind a attribute is
NodeHasKind a operations production kinds (n.Lexeme label) is = is ≡ kind.Text
NodeHasKind a operations production kinds (n.Top attribute) is = IsAttributeKind a attribute is
NodeHasKind a operations production kinds (n.Forward attribute) is = IsAttributeKind a attribute is
NodeHasKind a operations production kinds (n.Build number children) is = BuildsKind a.signatures kinds number children is
NodeHasKind a operations production kinds (n.Call name arguments) is = CallsKind operations kinds name arguments is
NodeHasKind a operations production kinds (n.If condition holds fails) is =
    IsAt kinds condition kind.Bool × IsAt kinds holds is × IsAt kinds fails is

-- the kept kind of each node among the first is exactly that of its expression
abbrev pub AreKept : AttributionParts → List OperationSignature → Production → List Node → List (Option Kind) → ℕ → Type 0
AreKept a operations production nodes kinds count = (at : ℕ) (e : Expression) (is : Kind) → at < count → Stands nodes at e
    → IsAt kinds at is ↔ HasKind a operations production e is
