-- What an expression's passing or failing one of the rules means.
use Rattle.std.specs.Prelude.{◌≡◌, ℕ, List, All, Contains}
use Rattle.wb_base.specs.declared.symbol.Kind.{Kind}
use Rattle.wb_syntax_expressions.specs.declared.node.Node.TheVariants as n
use Rattle.wb_operations.specs.Operations.{OperationSignature, HasOperation}
use Rattle.wb_syntax_resolved.specs.declared.attribution.AttributionParts.{AttributionParts}
use Rattle.wb_syntax_resolved.specs.declared.production.Production.{Production}
use Rattle.wb_syntax_resolved.specs.Expression.{Node}
use Rattle.wb_types.specs.declared.context.Rule.{Rule}
use Rattle.wb_types.specs.declared.context.Rule.TheVariants as rule
use Rattle.wb_types.specs.declared.refusal.TypeRefusal.{TypeRefusal}
use Rattle.wb_types.specs.declared.refusal.TypeRefusal.TheVariants as r
use Rattle.wb_types.specs.Expected.{IsExpected}
use Rattle.wb_types.specs.Rules.{IsKnown, HasArity, IsOfKind}

-- the expression of these nodes passes the rule, where this kind is asked for
abbrev pub Passes : Rule → AttributionParts → List OperationSignature → Production → List Node → Kind → Type 0
Passes rule.Known a operations production nodes is = All (IsKnown operations) nodes
Passes rule.Arity a operations production nodes is = All (HasArity a operations) nodes
Passes rule.Kind a operations production nodes is = IsOfKind a operations production nodes is

-- the expression calls an operation of this name, and there is none
pub record IsUnknownIn (operations : List OperationSignature) (nodes : List Node) (name : List ℕ) : Type 0 where
  pub arguments : List ℕ
  pub calls : Contains nodes (n.Call name arguments)
  pub unknown : ¬ HasOperation operations name

-- the refusal names an operation that the expression calls and that isn't there, unless memory ran out
abbrev pub FailsKnown : List OperationSignature → List Node → TypeRefusal → Type 0
FailsKnown operations nodes (r.UnknownOperation name) = IsUnknownIn operations nodes name
FailsKnown operations nodes (r.NoMemory error) = Unit {0}
FailsKnown operations nodes other = ⊥

-- the refusal tells that the expression, whose equation begins at this offset, isn't of the kind, unless memory ran out
abbrev pub FailsKind : AttributionParts → List OperationSignature → Production → List Node → Kind → ℕ → TypeRefusal → Type 0
FailsKind a operations production nodes is offset (r.TypeMismatch at) = (at ≡ offset) × ¬ IsOfKind a operations production nodes is
FailsKind a operations production nodes is offset (r.NoMemory error) = Unit {0}
FailsKind a operations production nodes is offset other = ⊥

-- the refusal tells that the expression, whose equation begins at this offset, fails the rule
abbrev pub Fails : Rule → AttributionParts → List OperationSignature → Production → List Node → Kind → ℕ → TypeRefusal → Type 0
Fails rule.Known a operations production nodes is offset refusal = FailsKnown operations nodes refusal
Fails rule.Arity a operations production nodes is offset refusal = (refusal ≡ r.WrongArity offset) × ¬ All (HasArity a operations) nodes
Fails rule.Kind a operations production nodes is offset refusal = FailsKind a operations production nodes is offset refusal

-- each expression of the production passes the rule
abbrev pub AllPass : Rule → AttributionParts → List OperationSignature → Production → Type 0
AllPass tested a operations production = (nodes : List Node) (is : Kind) (offset : ℕ) → IsExpected a production nodes is offset
    → Passes tested a operations production nodes is

-- the refusal tells that an expression of the production fails the rule
pub record SomeFails (tested : Rule) (a : AttributionParts) (operations : List OperationSignature) (production : Production)
    (refusal : TypeRefusal) : Type 0 where
  pub nodes : List Node
  pub is : Kind
  pub offset : ℕ
  pub asked : IsExpected a production nodes is offset
  pub fails : Fails tested a operations production nodes is offset refusal

-- the refusal tells that an expression of some production fails the rule
pub record AnyFails (tested : Rule) (a : AttributionParts) (operations : List OperationSignature) (refusal : TypeRefusal) : Type 0 where
  pub production : Production
  pub listed : Contains a.productions production
  pub fails : SomeFails tested a operations production refusal
