-- By which equation a vertex reads another, and where that equation is.
use Rattle.std.specs.Prelude.{◌≡◌, ℕ, List, Some, Contains, slice_get}
use Rattle.wb_flow.specs.Reads.{read_by}
use Rattle.wb_flow.specs.Rules.{target_of}
use Rattle.wb_flow.specs.declared.vertex.Vertex.{Vertex}
use Rattle.wb_flow.specs.declared.vertex.Vertex.TheVariants as v
use Rattle.wb_syntax_resolved.specs.declared.equation.Equation.{Equation}
use Rattle.wb_syntax_resolved.specs.declared.production.Forward.{Forward}
use Rattle.wb_syntax_resolved.specs.declared.production.Local.{Local}
use Rattle.wb_syntax_resolved.specs.declared.production.Production.{Production}
use Rattle.wb_syntax_resolved.specs.Expression.{Node}
use Rattle.wb_explain_flows_lists.specs.declared.rule.Rule.{Rule}

-- the expression of these nodes reads the vertex
abbrev pub ReadsVertex : List Node → Vertex → Type 0
ReadsVertex nodes to = (node : Node) × Contains nodes node × (read_by node ≡ Some to)

-- the place is that of an equation of the production for one vertex, of a local or of the forward, and that reads the other
pub data IsReadAt (production : Production) (from to : Vertex) (at : Rule) : Type 0 where
  by_equation : (e : Equation) → Contains production.equations e → target_of e.target ≡ from → ReadsVertex e.nodes to
      → at.owner ≡ e.owner → at.offset ≡ e.offset → IsReadAt production from to at
  by_local : (k : ℕ) (l : Local) → slice_get production.locals k ≡ Some l → from ≡ v.LocalTree k → ReadsVertex l.nodes to
      → at.owner ≡ l.owner → at.offset ≡ l.offset → IsReadAt production from to at
  by_forward : (f : Forward) → production.forward ≡ Some f → from ≡ v.ForwardTree → ReadsVertex f.nodes to
      → at.owner ≡ production.owner → at.offset ≡ f.offset → IsReadAt production from to at
