-- The flow graph of a production: a vertex for each attribute of its top, children, locals and forwarded tree, and for the tree of each
-- local and of the forward, and an edge from each vertex to each that it needs.
use Rattle.std.specs.Prelude.{ℕ, List}
use Rattle.wb_syntax_resolved.specs.declared.attributes.Direction.TheVariants.{Synthesized, Inherited}
use Rattle.wb_syntax_resolved.specs.declared.attribution.AttributionParts.{AttributionParts}
use Rattle.wb_syntax_resolved.specs.declared.production.Production.{Production}
use Rattle.wb_syntax_resolved.specs.Expression.{Node}
use Rattle.wb_flow_theory.specs.Vertices.{Made, forward, Step, made, Vertex, top_synthesized, top_inherited, synthesized, inherited}
use Rattle.wb_flow_theory.specs.Vertices.{tree_of}
use Rattle.wb_flow_theory.specs.Occurrences.{Occurs, Needs}
use Rattle.wb_flow_theory.specs.Rules.{Forwards, IsBelow, IsRule, HasRule, Reads}

-- the vertex is one of the production's flow graph: its attribute occurs there, or it is a tree that an expression makes
abbrev pub IsVertex : AttributionParts → Production → Vertex → Type 0
IsVertex a production (top_synthesized x) = Occurs a Synthesized x production.left
IsVertex a production (top_inherited i) = Occurs a Inherited i production.left
IsVertex a production (synthesized s x) = (m : ℕ) × IsBelow production s m × Occurs a Synthesized x m
IsVertex a production (inherited s i) = (m : ℕ) × IsBelow production s m × Occurs a Inherited i m
IsVertex a production (tree_of k) = (m : ℕ) × IsBelow production (made k) m

-- the first vertex needs the second
pub data HasFlowEdge (a : AttributionParts) (production : Production) : Vertex → Vertex → Type 0 where
  -- the expression of an equation, of a local or of the forward reads it
  by_rule : {v w : Vertex} {nodes : List Node} → IsRule production v nodes → Reads nodes w → HasFlowEdge a production v w
  -- a synthesized attribute one step down needs each inherited one there that its flow type has
  by_flow_type : {s : Step} {x i m : ℕ} → IsBelow production s m → Occurs a Synthesized x m → Needs a x m i
      → HasFlowEdge a production (synthesized s x) (inherited s i)
  -- a synthesized attribute of a local, or of the forwarded tree, needs the tree
  by_tree : {k : Made} {x m : ℕ} → IsBelow production (made k) m → Occurs a Synthesized x m
      → HasFlowEdge a production (synthesized (made k) x) (tree_of k)
  -- a synthesized attribute without equation is that of the forwarded tree
  by_copy_up : {x : ℕ} → Occurs a Synthesized x production.left → ¬ HasRule production (top_synthesized x) → Forwards production
      → HasFlowEdge a production (top_synthesized x) (synthesized (made forward) x)
  -- an inherited attribute of the forwarded tree without equation is that of the top
  by_copy_down : {i : ℕ} → Occurs a Inherited i production.left → ¬ HasRule production (inherited (made forward) i) → Forwards production
      → HasFlowEdge a production (inherited (made forward) i) (top_inherited i)

-- a walk of one or more edges leads from the first vertex to the second
pub data Leads {V : Type 0} (E : V → V → Type 0) : V → V → Type 0 where
  one : {v w : V} → E v w → Leads E v w
  more : {v w x : V} → Leads E v w → E w x → Leads E v x

-- the first vertex reaches the second in the production's flow graph
abbrev pub Reaches : AttributionParts → Production → Vertex → Vertex → Type 0
Reaches a production v w = Leads (HasFlowEdge a production) v w
