-- The code of each expression of a production.
use Rattle.std.specs.Prelude.{◌≡◌, ℕ, List, Option, Some, None, length, slice_get}
use Rattle.wb_flow_theory.specs.Rules.{IsRule}
use Rattle.wb_flow_theory.specs.Vertices.{Vertex}
use Rattle.wb_operations.specs.Operations.{OperationSignature}
use Rattle.wb_syntax_resolved.specs.declared.equation.Equation.{Equation}
use Rattle.wb_syntax_resolved.specs.declared.production.Forward.{Forward}
use Rattle.wb_syntax_resolved.specs.declared.production.Local.{Local}
use Rattle.wb_syntax_resolved.specs.declared.production.Production.{Production}
use Rattle.wb_syntax_resolved.specs.Expression.{Node}
use Rattle.wb_eval_rules.specs.Code.{IsCodeOf}
use Rattle.wb_eval_rules.specs.declared.code.Op.{Op}
use Rattle.wb_eval_rules.specs.declared.codes.Code.{Code}
use Rattle.wb_eval_rules.specs.declared.codes.Codes.{Codes}

-- two lists are as long, and what has one place in both is so related
pub record ArePaired {X Y : Type 0} (R : X → Y → Type 0) (xs : List X) (ys : List Y) : Type 0 where
  pub count : length ys ≡ length xs
  pub each : (n : ℕ) (x : X) (y : Y) → slice_get xs n ≡ Some x → slice_get ys n ≡ Some y → R x y

module _ (signatures : List OperationSignature) where
  -- each equation has its code
  abbrev pub AreEquationCodes : List Equation → List Code → Type 0
  AreEquationCodes = ArePaired (λ (e : Equation) (code : Code). IsCodeOf signatures e.nodes code.ops.items)

  -- each local has the code of its tree
  abbrev pub AreLocalCodes : List Local → List Code → Type 0
  AreLocalCodes = ArePaired (λ (l : Local) (code : Code). IsCodeOf signatures l.nodes code.ops.items)

  -- a forward has the code of its tree
  abbrev pub IsForwardCode : Option Forward → List Op → Type 0
  IsForwardCode None code = Unit {0}
  IsForwardCode (Some f) code = IsCodeOf signatures f.nodes code

  -- each expression of the production has its code
  pub record IsCoded (production : Production) (codes : Codes) : Type 0 where
    pub equations : AreEquationCodes production.equations codes.equations.items
    pub locals : AreLocalCodes production.locals codes.locals.items
    pub forward : IsForwardCode production.forward codes.forward.ops.items

  -- so has each production
  abbrev pub AreCoded : List Production → List Codes → Type 0
  AreCoded = ArePaired IsCoded

  -- the code is that of the expression by which the production defines the vertex
  pub record HasCode (production : Production) (v : Vertex) (code : List Op) : Type 0 where
    pub nodes : List Node
    pub rule : IsRule production v nodes
    pub code_is : IsCodeOf signatures nodes code
