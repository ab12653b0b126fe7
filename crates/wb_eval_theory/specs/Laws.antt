-- What the laws say of evaluation.
use Rattle.std.specs.Prelude.{◌≡◌, ◌↔◌, ℕ, List, Some}
use Rattle.wb_flow_theory.specs.Flow.{Reaches}
use Rattle.wb_flow_theory.specs.Modular.{IsProduction}
use Rattle.wb_flow_theory.specs.Rules.{IsRule, IsBelow}
use Rattle.wb_flow_theory.specs.Vertices.{Made, made, Vertex}
use Rattle.wb_base.specs.declared.symbol.Kind.{Kind}
use Rattle.wb_base.specs.declared.symbol.Kind.TheVariants as kind
use Rattle.wb_syntax_expressions.specs.Expression.{nodes_of}
use Rattle.wb_operations.specs.Operations.{Operations}
use Rattle.wb_types.specs.Kinds.{IsAttributeKind}
use Rattle.wb_values.specs.Fits.{FitsTree, FitsValue}
use Rattle.wb_values.specs.Tree.{Tree, Value, production_of}
use Rattle.wb_eval_theory.specs.Answers.{IsNodeAt, HasAnswer}
use Rattle.wb_eval_theory.specs.Instances.{Path, root, Instance, synthesized_at, inherited_at, tree_at, instance_of, home}
use Rattle.wb_eval_theory.specs.Needed.{Comes, ReadsNext, IsNeeded, NeedsMoreThan}
use Rattle.wb_eval_theory.specs.Rules.{expression_of, rule_of}
use Rattle.wb_eval_theory.specs.Walks.{Outcome, value, missing, walk_of}
use Rattle.wb_syntax_resolved.specs.declared.attribution.AttributionParts.{AttributionParts}
use Rattle.wb_syntax_resolved.specs.declared.production.Production.{Production}
use Rattle.wb_syntax_resolved.specs.Expression.{Expression, Node}

-- an instance has one answer at most, and a path leads to one tree at most
pub record HasOneAnswer (a : AttributionParts) (operations : Operations) (top : Tree) : Type 0 where
  pub answer : (i : Instance) (first second : Outcome) → HasAnswer a operations top i first → HasAnswer a operations top i second
      → first ≡ second
  pub node : (q : Path) (t u : Tree) → IsNodeAt a operations top q t → IsNodeAt a operations top q u → t ≡ u

-- an instance has an answer
abbrev pub HasSomeAnswer : AttributionParts → Operations → Tree → Instance → Type 0
HasSomeAnswer a operations top i = (o : Outcome) × HasAnswer a operations top i o

-- some number of instances is enough for it
abbrev pub IsEnough : AttributionParts → Operations → Tree → Instance → Type 0
IsEnough a operations top i = (n : ℕ) × ¬ NeedsMoreThan a operations top i n

-- the nodes of an expression are it
abbrev pub IsReadBack : Expression → Type 0
IsReadBack e = expression_of (nodes_of e) ≡ Some e

-- the expression of a vertex is what the nodes of its rule are read back as
abbrev pub IsRuleRead : Production → Type 0
IsRuleRead production = (v : Vertex) (e : Expression)
    → (rule_of production v ≡ Some e) ↔ ((nodes : List Node) × IsRule production v nodes × (expression_of nodes ≡ Some e))

-- each node is a tree of some nonterminal, and each value of an instance has the kind of its attribute or local
pub record HasKinds (a : AttributionParts) (operations : Operations) (top : Tree) : Type 0 where
  pub nodes : (q : Path) (t : Tree) → IsNodeAt a operations top q t → (nonterminal : ℕ) × FitsTree a.signatures t nonterminal
  pub synthesized : (q : Path) (y : ℕ) (v : Value) (is : Kind) → HasAnswer a operations top (synthesized_at q y) (value v)
      → IsAttributeKind a y is → FitsValue a.signatures v is
  pub inherited : (q : Path) (y : ℕ) (v : Value) (is : Kind) → HasAnswer a operations top (inherited_at q y) (value v)
      → IsAttributeKind a y is → FitsValue a.signatures v is
  pub trees : (q : Path) (k : Made) (v : Value) (t : Tree) (production : Production) (nonterminal : ℕ)
      → HasAnswer a operations top (tree_at q k) (value v) → IsNodeAt a operations top q t → IsProduction a (production_of t) production
      → IsBelow production (made k) nonterminal → FitsValue a.signatures v (kind.Tree nonterminal)

-- at one node, the first instance is a vertex of the flow graph of the node's production, and the second one that it reaches there
pub record IsAlongEdges (a : AttributionParts) (operations : Operations) (top : Tree) (i r : Instance) : Type 0 where
  pub path : Path
  pub at : Tree
  pub production : Production
  pub from : Vertex
  pub to : Vertex
  pub is_node : IsNodeAt a operations top path at
  pub is_production : IsProduction a (production_of at) production
  pub first : i ≡ instance_of path from
  pub second : r ≡ instance_of path to
  pub reaches : Reaches a production from to

-- of what is needed for an attribute of the root: it reads along edges, it has a home and its walk doesn't come to what nothing defines,
-- and what it reads doesn't need it
pub record IsWellFounded (a : AttributionParts) (operations : Operations) (top : Tree) (attribute : ℕ) : Type 0 where
  pub along : (i r : Instance) → IsNeeded a operations top (synthesized_at root attribute) i → ReadsNext a operations top i r
      → IsAlongEdges a operations top i r
  pub defined : (i : Instance) → IsNeeded a operations top (synthesized_at root attribute) i
      → (t : Tree) × IsNodeAt a operations top (home i) t × ¬ Comes a operations top (walk_of operations a i t) missing
  pub acyclic : (i r : Instance) → IsNeeded a operations top (synthesized_at root attribute) i → ReadsNext a operations top i r
      → ¬ IsNeeded a operations top r i
