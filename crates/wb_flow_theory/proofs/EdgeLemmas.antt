-- Edges of a flow graph are between its vertices.
use Rattle.std.proofs.Common.{◌≡◌, ℕ, List, Option, Some, None, IfSome, refl, sym, ap, subst, Contains, slice_get, option_map, is_some}
use Rattle.std.proofs.lemmas.Option.{same_Some}
use Rattle.wb_syntax_expressions.specs.declared.node.Node.TheVariants as n
use Rattle.wb_lemmas.proofs.Elements.{all_contained, all_at}
use Rattle.wb_syntax_resolved.specs.declared.attributes.Direction.TheVariants.{Synthesized, Inherited}
use Rattle.wb_syntax_resolved.specs.declared.attribution.AttributionParts.{AttributionParts}
use Rattle.wb_syntax_resolved.specs.declared.equation.Place.{Place}
use Rattle.wb_syntax_resolved.specs.declared.equation.Place.TheVariants as place
use Rattle.wb_syntax_resolved.specs.declared.equation.Target.{Target}
use Rattle.wb_syntax_resolved.specs.declared.equation.Target.TheVariants as target
use Rattle.wb_syntax_resolved.specs.declared.production.ChildKind.{ChildKind}
use Rattle.wb_syntax_resolved.specs.declared.production.ChildKind.TheVariants as child_kind
use Rattle.wb_syntax_resolved.specs.declared.production.Forward.{Forward}
use Rattle.wb_syntax_resolved.specs.declared.production.Local.{Local}
use Rattle.wb_syntax_resolved.specs.declared.production.Production.{Production}
use Rattle.wb_base.specs.declared.symbol.Kind.TheVariants as kind
use Rattle.wb_syntax_resolved.specs.Attribution.{IsAttribution}
use Rattle.wb_syntax_resolved.specs.Expression.{Node}
use Rattle.wb_syntax_resolved.specs.Named.{IsNamedNode, IsNamedExpression, IsNamedTarget, IsNamedEquation, IsNamedLocal, IsNamedProduction}
use Rattle.wb_syntax_resolved.specs.Visible.{kind_at}
use Rattle.wb_flow_theory.specs.Vertices.{Vertex, top_inherited, synthesized, tree_of, made, local, forward}
use Rattle.wb_flow_theory.specs.Vertices.{step_to}
use Rattle.wb_flow_theory.specs.Rules.{IsTreeAt, IsBelow, IsRule, target_vertex, node_read, Reads}
use Rattle.wb_flow_theory.specs.Rules as rules
use Rattle.wb_flow_theory.specs.Flow.{IsVertex, HasFlowEdge, by_rule, by_flow_type, by_tree, by_copy_up, by_copy_down}
use Rattle.wb_flow_theory.specs.Laws.{AreEdgesWithin}
use Rattle.wb_flow_theory.proofs.OccurrenceLemmas.{occurs_seen, flow_type_inherited}

-- a local is a tree
pub local_tree : (production : Production) (x : ℕ) (k : ChildKind) → kind_at production (place.Local x) ≡ Some k
    → (m : ℕ) × IsTreeAt production (place.Local x) m
local_tree production x k at = from (slice_get production.locals x) at where
  from : (o : Option Local) → option_map (λ (l : Local). child_kind.Value (kind.Tree l.nonterminal)) o ≡ Some k
      → (m : ℕ) × (option_map (λ (l : Local). child_kind.Value (kind.Tree l.nonterminal)) o ≡ Some (child_kind.Value (kind.Tree m)))
  from (Some l) is = (l.nonterminal, refl)
  from None is = absurd (cc is)

-- a tree at a child or local is one step down
pub below_place : (production : Production) (at : Place) (m : ℕ) → IsTreeAt production at m → IsBelow production (step_to at) m
below_place production (place.Child k) m is = is
below_place production (place.Local x) m is = is

module _ (a : AttributionParts) (production : Production) where
  -- what an equation is for is a vertex
  pub target_is : (owner : ℕ) (t : Target) → IsNamedTarget a production owner t → IsVertex a production (target_vertex t)
  target_is owner (target.Top x) seen = occurs_seen a owner Synthesized x production.left seen
  target_is owner (target.Place at x) (m, there, seen) = (m, below_place production at m there.is, occurs_seen a owner Inherited x m seen)
  target_is owner (target.Forward x) (some, seen) = (production.left, (some, refl), occurs_seen a owner Inherited x production.left seen)

  -- what a node reads is a vertex
  pub node_is : (owner : ℕ) (node : Node) (w : Vertex) → IsNamedNode a production owner node → node_read node ≡ Some w → IsVertex a production w
  node_is owner (n.Label (place.Child k)) w named is = absurd (cc is)
  node_is owner (n.Label (place.Local x)) w (k, there) is =
      subst (IsVertex a production) (same_Some (tree_of (local x)) w is) (local_tree production x (child_kind.Value k) there.is)
  node_is owner (n.Read at x) w (m, there, seen) is =
      subst (IsVertex a production) (same_Some (synthesized (step_to at) x) w is)
      (m, below_place production at m there.is, occurs_seen a owner Synthesized x m seen)
  node_is owner (n.Top x) w seen is =
      subst (IsVertex a production) (same_Some (top_inherited x) w is) (occurs_seen a owner Inherited x production.left seen)
  node_is owner (n.Forward x) w (some, seen) is =
      subst (IsVertex a production) (same_Some (synthesized (made forward) x) w is)
      (production.left, (some, refl), occurs_seen a owner Synthesized x production.left seen)
  node_is owner node w named is = absurd (cc is)

  -- what an expression reads is a vertex
  reads_vertex : (owner : ℕ) (nodes : List Node) (w : Vertex) → IsNamedExpression a production owner nodes → Reads nodes w
      → IsVertex a production w
  reads_vertex owner nodes w named (node, listed, is) =
      node_is owner node w (all_contained (IsNamedNode a production owner) nodes node named.named listed) is

  module _ (named : IsNamedProduction a production) where
    -- some owner sees all that an expression reads
    pub rule_named : (v : Vertex) (nodes : List Node) → IsRule production v nodes → (owner : ℕ) × IsNamedExpression a production owner nodes
    rule_named v nodes (rules.by_equation e listed is same) =
        let seen = all_contained (IsNamedEquation a production) production.equations e named.equations listed in
        (e.owner, subst (IsNamedExpression a production e.owner) (sym same) seen.value)
    rule_named v nodes (rules.by_local x l there is same) =
        let seen = all_at (IsNamedLocal a production) production.locals x l named.locals there in
        (l.owner, subst (IsNamedExpression a production l.owner) (sym same) seen.value)
    rule_named v nodes (rules.by_forward f there is same) =
        let seen = subst (λ o. IfSome o (λ (g : Forward). IsNamedExpression a production production.owner g.nodes)) there named.forward in
        (production.owner, subst (IsNamedExpression a production production.owner) (sym same) seen)

    -- what a rule defines is a vertex
    pub rule_vertex : (v : Vertex) (nodes : List Node) → IsRule production v nodes → IsVertex a production v
    rule_vertex v nodes (rules.by_equation e listed is same) =
        let seen = all_contained (IsNamedEquation a production) production.equations e named.equations listed in
        subst (IsVertex a production) (sym is) (target_is e.owner e.target seen.target)
    rule_vertex v nodes (rules.by_local x l there is same) =
        subst (IsVertex a production) (sym is) (l.nonterminal, ap (option_map (λ (k : Local). child_kind.Value (kind.Tree k.nonterminal))) there)
    rule_vertex v nodes (rules.by_forward f there is same) =
        subst (IsVertex a production) (sym is) (production.left, (ap is_some there, refl))

    -- what the expression of a rule reads is a vertex
    pub read_vertex : (v w : Vertex) (nodes : List Node) → IsRule production v nodes → Reads nodes w → IsVertex a production w
    read_vertex v w nodes rule reads = let (owner, expression) = rule_named v nodes rule in reads_vertex owner nodes w expression reads

    module _ (is : IsAttribution a) where
      pub edge_from : (v w : Vertex) → HasFlowEdge a production v w → IsVertex a production v
      edge_from v w (by_rule {nodes = nodes} rule reads) = rule_vertex v nodes rule
      edge_from _ _ (by_flow_type {m = m} below occurs needs) = (m, below, occurs)
      edge_from _ _ (by_tree {m = m} below occurs) = (m, below, occurs)
      edge_from _ _ (by_copy_up occurs none some) = occurs
      edge_from _ _ (by_copy_down occurs none some) = (production.left, (some, refl), occurs)

      pub edge_to : (v w : Vertex) → HasFlowEdge a production v w → IsVertex a production w
      edge_to v w (by_rule {nodes = nodes} rule reads) = read_vertex v w nodes rule reads
      edge_to _ _ (by_flow_type {x = x} {i = i} {m = m} below occurs needs) = (m, below, (flow_type_inherited a is x m i needs).1)
      edge_to _ _ (by_tree {m = m} below occurs) = (m, below)
      edge_to _ _ (by_copy_up occurs none some) = (production.left, (some, refl), occurs)
      edge_to _ _ (by_copy_down occurs none some) = occurs

-- the same of a production of an attribution
pub edges_within : (a : AttributionParts) → IsAttribution a → (production : Production) → Contains a.productions production
    → AreEdgesWithin a production
edges_within a is production listed v w edge =
    let named = all_contained (IsNamedProduction a) a.productions production is.named.productions listed in
    (edge_from a production named is v w edge, edge_to a production named is v w edge)
