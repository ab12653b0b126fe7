-- What each search for an equation finds.
use Rattle.std.specs.Prelude.{◌≡◌, ℕ, List, Some, Contains, slice_get}
use Rattle.wb_flow.specs.Rules.{target_of}
use Rattle.wb_flow.specs.declared.vertex.Vertex.{Vertex}
use Rattle.wb_syntax_resolved.specs.declared.equation.Equation.{Equation}
use Rattle.wb_syntax_resolved.specs.declared.production.Forward.{Forward}
use Rattle.wb_syntax_resolved.specs.declared.production.Local.{Local}
use Rattle.wb_syntax_resolved.specs.declared.production.Production.{Production}
use Rattle.wb_explain_flows_lists.specs.declared.rule.Rule.{Rule}
use Rattle.wb_explain_flows.specs.Rules.{ReadsVertex}

-- one of the equations is for one vertex and reads the other, and is here
pub record IsEquationAt (equations : List Equation) (from to : Vertex) (at : Rule) : Type 0 where
  pub equation : Equation
  pub listed : Contains equations equation
  pub defines : target_of equation.target ≡ from
  pub reads : ReadsVertex equation.nodes to
  pub owner : at.owner ≡ equation.owner
  pub offset : at.offset ≡ equation.offset

-- the equation of the local reads the vertex, and is here
pub record IsMadeAt (local : Local) (to : Vertex) (at : Rule) : Type 0 where
  pub reads : ReadsVertex local.nodes to
  pub owner : at.owner ≡ local.owner
  pub offset : at.offset ≡ local.offset

-- so it is of the local of a number
abbrev pub IsLocalAt : List Local → ℕ → Vertex → Rule → Type 0
IsLocalAt locals number to at = (local : Local) × (slice_get locals number ≡ Some local) × IsMadeAt local to at

-- the production forwards, and that equation reads the vertex and is here
pub record IsForwardAt (p : Production) (to : Vertex) (at : Rule) : Type 0 where
  pub forward : Forward
  pub there : p.forward ≡ Some forward
  pub reads : ReadsVertex forward.nodes to
  pub owner : at.owner ≡ p.owner
  pub offset : at.offset ≡ forward.offset
