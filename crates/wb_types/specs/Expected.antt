-- Which expressions are in an attribution, and of which kind each has to be.
use Rattle.std.specs.Prelude.{◌≡◌, ℕ, List, Some, Contains}
use Rattle.wb_base.specs.declared.symbol.Kind.{Kind}
use Rattle.wb_base.specs.declared.symbol.Kind.TheVariants as kind
use Rattle.wb_syntax_resolved.specs.declared.attribution.AttributionParts.{AttributionParts}
use Rattle.wb_syntax_resolved.specs.declared.equation.Equation.{Equation}
use Rattle.wb_syntax_resolved.specs.declared.equation.Target.{Target}
use Rattle.wb_syntax_resolved.specs.declared.equation.Target.TheVariants as target
use Rattle.wb_syntax_resolved.specs.declared.production.Forward.{Forward}
use Rattle.wb_syntax_resolved.specs.declared.production.Local.{Local}
use Rattle.wb_syntax_resolved.specs.declared.production.Production.{Production}
use Rattle.wb_syntax_resolved.specs.Expression.{Node}
use Rattle.wb_types.specs.Kinds.{IsAttributeKind}

-- the attribute that an equation is for
abbrev pub attribute_of : Target → ℕ
attribute_of (target.Top attribute) = attribute
attribute_of (target.Place at attribute) = attribute
attribute_of (target.Forward attribute) = attribute

-- the production has an expression of these nodes, which has to be of this kind, and whose equation begins at this offset
pub data IsExpected (a : AttributionParts) (production : Production) (nodes : List Node) (is : Kind) (offset : ℕ) : Type 0 where
  -- a local's is a tree of its nonterminal
  local : (l : Local) → Contains production.locals l → nodes ≡ l.nodes → is ≡ kind.Tree l.nonterminal → offset ≡ l.offset
      → IsExpected a production nodes is offset
  -- what the production forwards to is a tree of its left side
  forward : (f : Forward) → production.forward ≡ Some f → nodes ≡ f.nodes → is ≡ kind.Tree production.left → offset ≡ f.offset
      → IsExpected a production nodes is offset
  -- an equation's has the kind of its attribute
  equation : (e : Equation) → Contains production.equations e → nodes ≡ e.nodes → IsAttributeKind a (attribute_of e.target) is
      → offset ≡ e.offset → IsExpected a production nodes is offset
