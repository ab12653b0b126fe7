-- When each refusal is true: its rule fails there, and those before it hold.
use Rattle.std.specs.Prelude.{ℕ, List, All, Contains}
use Rattle.wb_base.specs.declared.symbol.Kind.{Kind}
use Rattle.wb_syntax_expressions.specs.declared.node.Node.TheVariants as n
use Rattle.wb_operations.specs.Operations.{OperationSignature, HasOperation}
use Rattle.wb_syntax_resolved.specs.declared.attribution.AttributionParts.{AttributionParts}
use Rattle.wb_syntax_resolved.specs.declared.production.Production.{Production}
use Rattle.wb_syntax_resolved.specs.Expression.{Node}
use Rattle.wb_types.specs.Expected.{IsExpected}
use Rattle.wb_types.specs.Rules.{HasArity, IsOfKind, AreKnown, HaveArities}
use Rattle.wb_types.specs.declared.refusal.TypeRefusal.{TypeRefusal}
use Rattle.wb_types.specs.declared.refusal.TypeRefusal.TheVariants as r

-- an expression in the attribution, with the kind that it has to be of; its equation begins at this offset
pub record ExpressionAt (a : AttributionParts) (offset : ℕ) : Type 0 where
  pub production : Production
  pub listed : Contains a.productions production
  pub nodes : List Node
  pub expected : Kind
  pub is_expected : IsExpected a production nodes expected offset

-- an expression calls an operation of this name, and there is none
pub record CallsUnknown (a : AttributionParts) (operations : List OperationSignature) (name : List ℕ) : Type 0 where
  pub offset : ℕ
  pub expression : ExpressionAt a offset
  pub arguments : List ℕ
  pub calls : Contains expression.nodes (n.Call name arguments)
  pub unknown : ¬ HasOperation operations name

-- each operation is in the table, and in an expression whose equation begins at this offset a production or operation has another number
-- of arguments than it takes
pub record HasWrongArity (a : AttributionParts) (operations : List OperationSignature) (offset : ℕ) : Type 0 where
  pub known : AreKnown a operations
  pub expression : ExpressionAt a offset
  pub wrong : ¬ All (HasArity a operations) expression.nodes

-- operations and arguments are right, and an expression whose equation begins at this offset isn't of the kind that its place asks for
pub record HasWrongKind (a : AttributionParts) (operations : List OperationSignature) (offset : ℕ) : Type 0 where
  pub known : AreKnown a operations
  pub arities : HaveArities a operations
  pub expression : ExpressionAt a offset
  pub wrong : ¬ IsOfKind a operations expression.production expression.nodes expression.expected

-- the refusal is true
abbrev pub IsTrueRefusal : AttributionParts → List OperationSignature → TypeRefusal → Type 0
IsTrueRefusal a operations (r.UnknownOperation name) = CallsUnknown a operations name
IsTrueRefusal a operations (r.WrongArity offset) = HasWrongArity a operations offset
IsTrueRefusal a operations (r.TypeMismatch offset) = HasWrongKind a operations offset
IsTrueRefusal a operations (r.NoMemory error) = Unit {0}
