-- The edges of each kind are together those of the flow graph.
use Rattle.std.proofs.Common.{◌≡◌, ◌≢◌, ◌∙◌, ◌⊎◌, inl, inr, ℕ, List, Option, None, Some, refl, sym, ap, subst, option_map, Contains}
use Rattle.std.specs.Prelude.{◌↔◌}
use Rattle.std.proofs.lemmas.Option.{same_Some}
use Rattle.wb_syntax_expressions.specs.declared.node.Node.TheVariants as n
use Rattle.wb_lemmas.proofs.Elements.{all_contained}
use Rattle.wb_flow_theory.specs.Vertices as w
use Rattle.wb_flow_theory.specs.Occurrences.{Goes, HasFlowType, IsOn, Needs}
use Rattle.wb_flow_theory.specs.Rules.{IsRule, HasRule, Reads, Forwards, IsBelow, target_vertex, node_read}
use Rattle.wb_flow_theory.specs.Rules as rules
use Rattle.wb_flow_theory.specs.Flow.{HasFlowEdge, by_rule, by_flow_type, by_tree, by_copy_up, by_copy_down}
use Rattle.wb_flow_theory.proofs.EdgeLemmas.{rule_named}
use Rattle.wb_flow_theory.proofs.OccurrenceLemmas.{goes_seen, flow_type_inherited}
use Rattle.wb_flow.specs.Rules.{attribute_at, target_of, IsDefined}
use Rattle.wb_flow.specs.declared.arrows.Arrow.{Arrow}
use Rattle.wb_flow.specs.declared.positions.Position.{Position}
use Rattle.wb_flow.specs.declared.positions.Position.TheVariants as p
use Rattle.wb_flow.specs.declared.positions.TreeAt.{TreeAt}
use Rattle.wb_flow.specs.declared.vertex.Vertex.{Vertex}
use Rattle.wb_flow.specs.declared.vertex.Vertex.TheVariants as code
use Rattle.wb_flow.specs.Inner.Adding.{SomeOf}
use Rattle.wb_flow.specs.Inner.Arrows.{IsArrow, IsExpressionArrow, IsRuleArrow, IsOccurrenceArrow}
use Rattle.wb_flow.specs.Reads.{read_by}
use Rattle.wb_flow.specs.Inner.Arrows.{IsBelowArrow, IsCopyArrow, IsLeftCopyArrow}
use Rattle.wb_flow.specs.Inner.Positions.{vertex_at, tree_at, HasTree}
use Rattle.wb_flow.specs.Vertices.{vertex_below, vertex_of}
use Rattle.wb_flow.proofs.VertexLemmas.{position_of, step_at, name_of, name_of_vertex, top_is, below_is, tree_is, tree_below, below_tree}
use Rattle.wb_syntax_resolved.specs.declared.attributes.Direction.{Direction}
use Rattle.wb_syntax_resolved.specs.declared.attributes.Direction.TheVariants.{Synthesized, Inherited}
use Rattle.wb_syntax_resolved.specs.declared.attributes.Occurrence.{Occurrence}
use Rattle.wb_syntax_resolved.specs.declared.attribution.AttributionParts.{AttributionParts}
use Rattle.wb_syntax_resolved.specs.declared.equation.Place.{Place}
use Rattle.wb_syntax_resolved.specs.declared.equation.Place.TheVariants as place
use Rattle.wb_syntax_resolved.specs.declared.equation.Target.{Target}
use Rattle.wb_syntax_resolved.specs.declared.equation.Target.TheVariants as target
use Rattle.wb_syntax_resolved.specs.declared.production.Production.{Production}
use Rattle.wb_syntax_resolved.specs.Attribution.{IsAttribution}
use Rattle.wb_syntax_resolved.specs.Expression.{Node}
use Rattle.wb_syntax_resolved.specs.Named.{IsNamedNode, IsNamedTarget, IsNamedEquation, IsNamedProduction}

-- the vertex that an equation for a name defines
abbrev pub defined_by : Vertex → w.Vertex
defined_by (code.Top x) = w.top_synthesized x
defined_by (code.Child k x) = w.inherited (w.child k) x
defined_by (code.Local y x) = w.inherited (w.made (w.local y)) x
defined_by (code.Forward x) = w.inherited (w.made w.forward) x
defined_by (code.LocalTree y) = w.tree_of (w.local y)
defined_by code.ForwardTree = w.tree_of w.forward

target_defined : (t : Target) → target_vertex t ≡ defined_by (target_of t)
target_defined (target.Top x) = refl
target_defined (target.Place (place.Child k) x) = refl
target_defined (target.Place (place.Local y) x) = refl
target_defined (target.Forward x) = refl

target_name : (t : Target) → name_of (target_vertex t) ≡ target_of t
target_name (target.Top x) = refl
target_name (target.Place (place.Child k) x) = refl
target_name (target.Place (place.Local y) x) = refl
target_name (target.Forward x) = refl

-- an equation for a name is a rule for the vertex
pub defined_rule : (production : Production) (c : Vertex) → IsDefined production c → HasRule production (defined_by c)
defined_rule production c (e, listed, same) =
    (e.nodes, rules.by_equation e listed (sym (target_defined e.target ∙ ap defined_by same)) refl)

-- and a rule for an attribute is an equation
pub rule_defined : (production : Production) (u : w.Vertex) → ((k : w.Made) → u ≢ w.tree_of k) → HasRule production u
    → IsDefined production (name_of u)
rule_defined production u other (nodes, rules.by_equation e listed is same) = (e, listed, sym (ap name_of is ∙ target_name e.target))
rule_defined production u other (nodes, rules.by_local x l there is same) = absurd (other (w.local x) is)
rule_defined production u other (nodes, rules.by_forward f there is same) = absurd (other w.forward is)

top_no_tree : (x : ℕ) (k : w.Made) → w.top_synthesized x ≢ w.tree_of k
top_no_tree x k e = cc

below_no_tree : (s : w.Step) (x : ℕ) (k : w.Made) → w.inherited s x ≢ w.tree_of k
below_no_tree s x k e = cc

-- a synthesized attribute of the top has a rule where an equation is for it
pub top_rule : (production : Production) (x : ℕ) → HasRule production (w.top_synthesized x) → IsDefined production (code.Top x)
top_rule production x rule = rule_defined production (w.top_synthesized x) (top_no_tree x) rule

-- so has an inherited one one step down
pub below_rule : (production : Production) (s : w.Step) (x : ℕ) → HasRule production (w.inherited s x)
    → IsDefined production (vertex_at (position_of s) x)
below_rule production s x rule = rule_defined production (w.inherited s x) (below_no_tree s x) rule

module _ (a : AttributionParts) where
  -- an attribute of a child or local
  pub place_vertex : (at : Place) (d : Direction) (x : ℕ) → Goes a d x → vertex_of a (attribute_at at x) ≡ vertex_below (w.step_to at) d x
  place_vertex (place.Child k) d x goes = below_is a (p.Child k) (w.child k) d x refl goes
  place_vertex (place.Local y) d x goes = below_is a (p.Local y) (w.made (w.local y)) d x refl goes

  module _ (production : Production) where
    -- what an equation defines
    target_is : (owner : ℕ) (t : Target) → IsNamedTarget a production owner t → vertex_of a (target_of t) ≡ target_vertex t
    target_is owner (target.Top x) seen = top_is a Synthesized x (goes_seen a owner Synthesized x seen.attribute)
    target_is owner (target.Place at x) (m, there, seen) = place_vertex at Inherited x (goes_seen a owner Inherited x seen.attribute)
    target_is owner (target.Forward x) (some, seen) =
        below_is a p.Forward (w.made w.forward) Inherited x refl (goes_seen a owner Inherited x seen.attribute)

    -- what a node reads
    read_is : (owner : ℕ) (node : Node) → IsNamedNode a production owner node → option_map (vertex_of a) (read_by node) ≡ node_read node
    read_is owner (n.Label (place.Child k)) named = refl
    read_is owner (n.Label (place.Local x)) named = refl
    read_is owner (n.Read at x) (m, there, seen) = ap Some (place_vertex at Synthesized x (goes_seen a owner Synthesized x seen.attribute))
    read_is owner (n.Top x) seen = ap Some (top_is a Inherited x (goes_seen a owner Inherited x seen.attribute))
    read_is owner (n.Forward x) (some, seen) =
        ap Some (below_is a p.Forward (w.made w.forward) Synthesized x refl (goes_seen a owner Synthesized x seen.attribute))
    read_is owner node named = refl

not_top_step : (s : w.Step) → position_of s ≢ p.Top
not_top_step (w.child k) e = cc
not_top_step (w.made (w.local x)) e = cc
not_top_step (w.made w.forward) e = cc

made_name : (k : w.Made) → tree_at (position_of (w.made k)) ≡ Some (name_of (w.tree_of k))
made_name (w.local x) = refl
made_name w.forward = refl

mapped : {X Y : Type 0} (f : X → Y) (o : Option X) (y : Y) → option_map f o ≡ Some y → (x : X) × (o ≡ Some x) × (f x ≡ y)
mapped f None y is = absurd (cc is)
mapped f (Some x) y is = (x, refl, same_Some (f x) y is)

module _ (a : AttributionParts) (is : IsAttribution a) (production : Production) (named : IsNamedProduction a production) where
  -- an edge for a read of an expression is one of the graph
  expression_arrow : (c : Vertex) (nodes : List Node) → IsRule production (vertex_of a c) nodes → (arrow : Arrow)
      → IsExpressionArrow c nodes arrow → IsArrow a production arrow
  expression_arrow c nodes rule arrow (node, listed, (from, to)) =
      let (owner, seen) = rule_named a production named (vertex_of a c) nodes rule in
      let node_named = all_contained (IsNamedNode a production owner) nodes node seen.named listed in
      subst (λ z. HasFlowEdge a production (vertex_of a z) (vertex_of a arrow.to)) (sym from)
      (by_rule rule (node, listed, sym (read_is a production owner node node_named) ∙ ap (option_map (vertex_of a)) to))

  -- an edge for a read is one of the graph
  rule_arrow : (arrow : Arrow) → IsRuleArrow production arrow → IsArrow a production arrow
  rule_arrow arrow (inl (e, listed, reads)) =
      let seen = all_contained (IsNamedEquation a production) production.equations e named.equations listed in
      expression_arrow (target_of e.target) e.nodes
      (rules.by_equation e listed (target_is a production e.owner e.target seen.target) refl) arrow reads
  rule_arrow arrow (inr (inl (x, (l, there, reads)))) = expression_arrow (code.LocalTree x) l.nodes (rules.by_local x l there refl refl) arrow reads
  rule_arrow arrow (inr (inr (f, there, reads))) = expression_arrow code.ForwardTree f.nodes (rules.by_forward f there refl refl) arrow reads

  -- what an occurrence has
  occurrence_flow : (o : Occurrence) → Contains a.occurrences o → HasFlowType a o.attribute o.nonterminal o.needs
  occurrence_flow o listed =
      record { occurrence = o; listed = listed; of_attribute = refl; on_nonterminal = refl; needs_are = refl }

  -- an edge from an attribute of a tree one step down is one of the graph
  below_arrow : (t : TreeAt) (s : w.Step) → step_at t.position ≡ Some s → HasTree production t → (o : Occurrence) → Contains a.occurrences o
      → o.nonterminal ≡ t.nonterminal → (arrow : Arrow) → IsOccurrenceArrow a t.position o arrow → IsArrow a production arrow
  below_arrow t s step there o listed on arrow (inl (i, has, (from, to))) =
      let below = subst (IsBelow production s) (sym on) (tree_below production t.position s t.nonterminal step there) in
      let needs : Needs a o.attribute o.nonterminal i = (o.needs, occurrence_flow o listed, has) in
      let both = flow_type_inherited a is o.attribute o.nonterminal i needs in
      let edge : HasFlowEdge a production (w.synthesized s o.attribute) (w.inherited s i) = by_flow_type below both.0 needs in
      let source = ap (vertex_of a) from ∙ below_is a t.position s Synthesized o.attribute step both.0.goes in
      let end = ap (vertex_of a) to ∙ below_is a t.position s Inherited i step both.1.goes in
      subst (λ z. HasFlowEdge a production z (vertex_of a arrow.to)) (sym source)
      (subst (HasFlowEdge a production (w.synthesized s o.attribute)) (sym end) edge)
  below_arrow t s step there o listed on arrow (inr (goes, from, at)) =
      let (k, made, same) = tree_is a t.position arrow.to at in
      let below = subst (IsBelow production (w.made k)) (sym on) (tree_below production t.position (w.made k) t.nonterminal made there) in
      let edge : HasFlowEdge a production (w.synthesized (w.made k) o.attribute) (w.tree_of k) =
      by_tree below (record { goes = goes; on = (o.needs, occurrence_flow o listed) }) in
      let source = ap (vertex_of a) from ∙ below_is a t.position (w.made k) Synthesized o.attribute made goes in
      subst (λ z. HasFlowEdge a production z (vertex_of a arrow.to)) (sym source)
      (subst (HasFlowEdge a production (w.synthesized (w.made k) o.attribute)) (sym same) edge)

  not_top : (position : Position) → position ≢ p.Top → (s : w.Step) × (step_at position ≡ Some s)
  not_top p.Top other = absurd (other refl)
  not_top (p.Child k) other = (w.child k, refl)
  not_top (p.Local x) other = (w.made (w.local x), refl)
  not_top p.Forward other = (w.made w.forward, refl)

  tree_arrow : (t : TreeAt) → HasTree production t → (arrow : Arrow) → IsBelowArrow a t arrow → IsArrow a production arrow
  tree_arrow t there arrow (other, (o, listed, on, kind)) =
      let (s, step) = not_top t.position other in
      below_arrow t s step there o listed on arrow kind

  -- a copy is an edge of the graph
  copy_arrow : Forwards production → (x : ℕ) → IsOn a x production.left → (arrow : Arrow) → IsCopyArrow a production x arrow
      → IsArrow a production arrow
  copy_arrow forwards x on arrow (inl (goes, none, from, to)) =
      let edge : HasFlowEdge a production (w.top_synthesized x) (w.synthesized (w.made w.forward) x) =
      by_copy_up (record { goes = goes; on = on }) (λ rule. none (top_rule production x rule)) forwards in
      let source = ap (vertex_of a) from ∙ top_is a Synthesized x goes in
      let end = ap (vertex_of a) to ∙ below_is a p.Forward (w.made w.forward) Synthesized x refl goes in
      subst (λ z. HasFlowEdge a production z (vertex_of a arrow.to)) (sym source)
      (subst (HasFlowEdge a production (w.top_synthesized x)) (sym end) edge)
  copy_arrow forwards x on arrow (inr (goes, none, from, to)) =
      let edge : HasFlowEdge a production (w.inherited (w.made w.forward) x) (w.top_inherited x) =
      by_copy_down (record { goes = goes; on = on }) (λ rule. none (below_rule production (w.made w.forward) x rule)) forwards in
      let source = ap (vertex_of a) from ∙ below_is a p.Forward (w.made w.forward) Inherited x refl goes in
      let end = ap (vertex_of a) to ∙ top_is a Inherited x goes in
      subst (λ z. HasFlowEdge a production z (vertex_of a arrow.to)) (sym source)
      (subst (HasFlowEdge a production (w.inherited (w.made w.forward) x)) (sym end) edge)

  -- an edge of one of the kinds
  abbrev IsSomeArrow : Arrow → Type 0
  IsSomeArrow arrow = IsRuleArrow production arrow
      ⊎ (((t : TreeAt) × HasTree production t × IsBelowArrow a t arrow) ⊎ IsLeftCopyArrow a production arrow)

  -- where an edge leads from and to, by names
  named_end : (c : Vertex) (u : w.Vertex) → vertex_of a c ≡ u → c ≡ name_of u
  named_end c u same = sym (name_of_vertex a c) ∙ ap name_of same

  edge_read : (arrow : Arrow) (u v : w.Vertex) (nodes : List Node) → vertex_of a arrow.from ≡ u → vertex_of a arrow.to ≡ v
      → IsRule production u nodes → Reads nodes v → (name : Vertex) → name_of u ≡ name → IsExpressionArrow name nodes arrow
  edge_read arrow u v nodes from to rule (node, listed, reads) name same =
      let (owner, seen) = rule_named a production named u nodes rule in
      let node_named = all_contained (IsNamedNode a production owner) nodes node seen.named listed in
      let (d, read, names) = mapped (vertex_of a) (read_by node) v (read_is a production owner node node_named ∙ reads) in
      let end : d ≡ arrow.to = named_end d v names ∙ sym (named_end arrow.to v to) in
      (node, listed, (named_end arrow.from u from ∙ same, read ∙ ap Some end))

  edge_arrow : (arrow : Arrow) (u v : w.Vertex) → vertex_of a arrow.from ≡ u → vertex_of a arrow.to ≡ v → HasFlowEdge a production u v
      → IsSomeArrow arrow
  edge_arrow arrow u v from to (by_rule {nodes = nodes} rule reads) = inl (by_kind rule (edge_read arrow u v nodes from to rule reads)) where
    by_kind : IsRule production u nodes → ((name : Vertex) → name_of u ≡ name → IsExpressionArrow name nodes arrow)
        → IsRuleArrow production arrow
    by_kind (rules.by_equation e has is same) expression =
        inl (
          e,
          has,
          subst (λ z. IsExpressionArrow (target_of e.target) z arrow) same
              (expression (target_of e.target) (ap name_of is ∙ target_name e.target)),
        )
    by_kind (rules.by_local x l there is same) expression =
        inr (inl (x, (l, there, subst (λ z. IsExpressionArrow (code.LocalTree x) z arrow) same (expression (code.LocalTree x) (ap name_of is)))))
    by_kind (rules.by_forward f there is same) expression =
        inr (inr (f, there, subst (λ z. IsExpressionArrow code.ForwardTree z arrow) same (expression code.ForwardTree (ap name_of is))))
  edge_arrow arrow _ _ from to (by_flow_type {s = s} {x = x} {i = i} {m = m} below occurs (needs, flow, has)) =
      let o = flow.occurrence in
      let at = flow.of_attribute in
      inr (inl (
        record { position = position_of s; nonterminal = m },
        below_tree production s m below,
        (
          not_top_step s,
          (
            o,
            flow.listed,
            flow.on_nonterminal,
            inl (
              i,
              subst (λ z. Contains z i) (sym flow.needs_are) has,
              (named_end arrow.from (w.synthesized s x) from ∙ ap (vertex_at (position_of s)) (sym at), named_end arrow.to (w.inherited s i) to),
            ),
          ),
        ),
      ))
  edge_arrow arrow _ _ from to (by_tree {k = k} {x = x} {m = m} below occurs) =
      let flow = occurs.on.1 in
      let at = flow.of_attribute in
      inr (inl (
        record { position = position_of (w.made k); nonterminal = m },
        below_tree production (w.made k) m below,
        (
          not_top_step (w.made k),
          (
            flow.occurrence,
            flow.listed,
            flow.on_nonterminal,
            inr (
              subst (Goes a Synthesized) (sym at) occurs.goes,
              named_end arrow.from (w.synthesized (w.made k) x) from ∙ ap (vertex_at (position_of (w.made k))) (sym at),
              made_name k ∙ ap Some (sym (named_end arrow.to (w.tree_of k) to)),
            ),
          ),
        ),
      ))
  edge_arrow arrow _ _ from to (by_copy_up {x = x} occurs none forwards) =
      inr (inr (
        forwards,
        (
          x,
          occurs.on,
          inl (
            occurs.goes,
            (λ defined. none (defined_rule production (code.Top x) defined)),
            named_end arrow.from (w.top_synthesized x) from,
            named_end arrow.to (w.synthesized (w.made w.forward) x) to,
          ),
        ),
      ))
  edge_arrow arrow _ _ from to (by_copy_down {i = i} occurs none forwards) =
      inr (inr (
        forwards,
        (
          i,
          occurs.on,
          inr (
            occurs.goes,
            (λ defined. none (defined_rule production (code.Forward i) defined)),
            named_end arrow.from (w.inherited (w.made w.forward) i) from,
            named_end arrow.to (w.top_inherited i) to,
          ),
        ),
      ))

  -- the edges of all kinds are those of the graph
  pub arrows_edges : (trees : List TreeAt) → ((t : TreeAt) → Contains trees t ↔ HasTree production t) → (arrow : Arrow)
      → (IsRuleArrow production arrow ⊎ (SomeOf trees (IsBelowArrow a) arrow ⊎ IsLeftCopyArrow a production arrow)) ↔ IsArrow a production arrow
  arrows_edges trees all arrow = (to, (λ edge. from (edge_arrow arrow (vertex_of a arrow.from) (vertex_of a arrow.to) refl refl edge))) where
    to : IsRuleArrow production arrow ⊎ (SomeOf trees (IsBelowArrow a) arrow ⊎ IsLeftCopyArrow a production arrow) → IsArrow a production arrow
    to (inl rule) = rule_arrow arrow rule
    to (inr (inl (t, has, below))) = tree_arrow t ((all t).0 has) arrow below
    to (inr (inr (forwards, (x, on, copy)))) = copy_arrow forwards x on arrow copy

    from : IsSomeArrow arrow → IsRuleArrow production arrow ⊎ (SomeOf trees (IsBelowArrow a) arrow ⊎ IsLeftCopyArrow a production arrow)
    from (inl rule) = inl rule
    from (inr (inl (t, there, below))) = inr (inl (t, (all t).1 there, below))
    from (inr (inr copy)) = inr (inr copy)
