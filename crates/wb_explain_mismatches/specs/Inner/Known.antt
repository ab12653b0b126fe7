-- The kind of a node by the kinds of its parts, where the kinds of the first nodes are kept by place.
use Rattle.std.specs.Prelude.{◌≡◌, ◌≢◌, ◌⊎◌, ◌+◌, ℕ, List, Some, length, slice_get}
use Rattle.wb_base.specs.declared.symbol.Kind.{Kind}
use Rattle.wb_base.specs.declared.symbol.Kind.TheVariants as kind
use Rattle.wb_syntax_expressions.specs.declared.node.Node.TheVariants as n
use Rattle.wb_syntax_expressions.specs.Places.{HasNode}
use Rattle.wb_operations.specs.Operations.{OperationSignature}
use Rattle.wb_syntax_resolved.specs.declared.attribution.AttributionParts.{AttributionParts}
use Rattle.wb_syntax_resolved.specs.declared.production.ChildKind.TheVariants as child
use Rattle.wb_syntax_resolved.specs.declared.production.Production.{Production}
use Rattle.wb_syntax_resolved.specs.Expression.{Node}
use Rattle.wb_syntax_resolved.specs.Visible.{kind_at}
use Rattle.wb_values.specs.Signature.{Signature}
use Rattle.wb_types.specs.Kinds.{IsAttributeKind}
use Rattle.wb_explain_mismatches.specs.declared.wrong.Wrong.{Wrong}
use Rattle.wb_explain_mismatches.specs.declared.wrong.Finding.{Finding}
use Rattle.wb_explain_mismatches.specs.declared.wrong.Finding.TheVariants as f
use Rattle.wb_explain_mismatches.specs.Wrong.{HasChildren, IsKindAt, IsWrongPart, IsWrongWhole, TakesKinds}

-- the kinds kept are those of the expressions at these places
abbrev pub AreKnown : AttributionParts → List OperationSignature → Production → List Node → List Kind → Type 0
AreKnown a operations production nodes kinds =
    (at : ℕ) (is : Kind) → slice_get kinds at ≡ Some is → IsKindAt a operations production nodes at is

-- the parts at these places are of these kinds, one by one
pub record AreAt (kinds : List Kind) (places : List ℕ) (are : List Kind) : Type 0 where
  pub count : length places ≡ length are
  pub each : (i at : ℕ) (is : Kind) → slice_get places i ≡ Some at → slice_get are i ≡ Some is → slice_get kinds at ≡ Some is

-- a node that builds a tree of this production
pub record BuildsKind (signatures : List Signature) (kinds : List Kind) (number : ℕ) (places : List ℕ) (is : Kind) : Type 0 where
  pub signature : Signature
  pub listed : slice_get signatures number ≡ Some signature
  pub parts : AreAt kinds places signature.children
  pub whole : is ≡ kind.Tree signature.left

-- a node that calls the operation of this name
pub record CallsKind (operations : List OperationSignature) (kinds : List Kind) (name : List ℕ) (places : List ℕ) (is : Kind)
    : Type 0 where
  pub number : ℕ
  pub signature : OperationSignature
  pub listed : slice_get operations number ≡ Some signature
  pub named : signature.name ≡ name
  pub parts : AreAt kinds places signature.takes
  pub whole : is ≡ signature.gives

-- a node that chooses by a condition
pub record ChoosesKind (kinds : List Kind) (condition holds fails : ℕ) (is : Kind) : Type 0 where
  pub asked : slice_get kinds condition ≡ Some kind.Bool
  pub first : slice_get kinds holds ≡ Some is
  pub second : slice_get kinds fails ≡ Some is

-- the kind of a node by the kinds of its parts
abbrev pub NodeKind : AttributionParts → List OperationSignature → Production → List Kind → Node → Kind → Type 0
NodeKind a operations production kinds (n.Int z) is = is ≡ kind.Int
NodeKind a operations production kinds (n.Text text) is = is ≡ kind.Text
NodeKind a operations production kinds (n.Bool truth) is = is ≡ kind.Bool
NodeKind a operations production kinds (n.Label label) is = kind_at production label ≡ Some (child.Value is)
NodeKind a operations production kinds (n.Read label attribute) is = IsAttributeKind a attribute is
NodeKind a operations production kinds (n.Lexeme label) is = is ≡ kind.Text
NodeKind a operations production kinds (n.Top attribute) is = IsAttributeKind a attribute is
NodeKind a operations production kinds (n.Forward attribute) is = IsAttributeKind a attribute is
NodeKind a operations production kinds (n.Build number children) is = BuildsKind a.signatures kinds number children is
NodeKind a operations production kinds (n.Call name arguments) is = CallsKind operations kinds name arguments is
NodeKind a operations production kinds (n.If condition holds fails) is = ChoosesKind kinds condition holds fails is

-- among parts at these places, of which these kinds are wanted, the one of this number is of another
pub record IsOther (kinds : List Kind) (places : List ℕ) (wanted : List Kind) (w : Wrong) : Type 0 where
  pub place : slice_get places w.number ≡ Some w.part
  pub wants : slice_get wanted w.number ≡ Some w.wanted
  pub is : slice_get kinds w.part ≡ Some w.found
  pub differ : w.found ≢ w.wanted

-- of an if the condition is no truth value, or what is after else is of another kind than what is after then
pub record IsOtherCondition (kinds : List Kind) (condition : ℕ) (w : Wrong) : Type 0 where
  pub number : w.number ≡ 0
  pub part : w.part ≡ condition
  pub wants : w.wanted ≡ kind.Bool
  pub is : slice_get kinds w.part ≡ Some w.found
  pub differ : w.found ≢ w.wanted

pub record IsOtherBranch (kinds : List Kind) (holds fails : ℕ) (w : Wrong) : Type 0 where
  pub number : w.number ≡ 2
  pub part : w.part ≡ fails
  pub wants : slice_get kinds holds ≡ Some w.wanted
  pub is : slice_get kinds w.part ≡ Some w.found
  pub differ : w.found ≢ w.wanted

abbrev pub IsOtherChoice : List Kind → ℕ → ℕ → ℕ → Wrong → Type 0
IsOtherChoice kinds condition holds fails w = IsOtherCondition kinds condition w ⊎ IsOtherBranch kinds holds fails w

-- so it is of a node's parts, by its form
abbrev pub IsOtherIn : AttributionParts → List OperationSignature → List Kind → Node → Wrong → Type 0
IsOtherIn a operations kinds (n.Build number children) w =
    (wanted : List Kind) × HasChildren a.signatures number wanted × IsOther kinds children wanted w
IsOtherIn a operations kinds (n.Call name arguments) w =
    (wanted : List Kind) × TakesKinds operations name wanted × IsOther kinds arguments wanted w
IsOtherIn a operations kinds (n.If condition holds fails) w = IsOtherChoice kinds condition holds fails w
IsOtherIn a operations kinds node w = ⊥

-- the last kind is this one, and another is wanted
pub record IsOtherLast (kinds : List Kind) (wanted found : Kind) : Type 0 where
  pub at : ℕ
  pub last : at + 1 ≡ length kinds
  pub is : slice_get kinds at ≡ Some found
  pub differ : found ≢ wanted

-- what is found is that the last kind isn't the one that is wanted
abbrev pub IsLastFound : List Kind → Kind → Finding → Type 0
IsLastFound kinds wanted (f.Part at w) = ⊥
IsLastFound kinds wanted (f.Whole found) = IsOtherLast kinds wanted found

-- what is found in an expression is so
abbrev pub IsFinding : AttributionParts → List OperationSignature → Production → List Node → Kind → Finding → Type 0
IsFinding a operations production nodes wanted (f.Part at w) =
    (node : Node) × HasNode nodes at node × IsWrongPart a operations production nodes node w.number w.wanted w.found
IsFinding a operations production nodes wanted (f.Whole found) = IsWrongWhole a operations production nodes wanted found
