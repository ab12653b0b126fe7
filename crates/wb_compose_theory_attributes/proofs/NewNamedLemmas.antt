-- What is named in an attribution is named in one that has it, in new numbers.
use Rattle.std.proofs.Common.{◌≤◌, ℕ, List, Option, Some, None, All, map, option_map, length, sym, ap, subst}
use Rattle.std.specs.Prelude.{IfSome}
use Rattle.std.proofs.lemmas.List.Elements.{All-map}
use Rattle.wb_lemmas.proofs.Elements.{all_weaker}
use Rattle.wb_base.specs.declared.symbol.Kind.TheVariants as kind
use Rattle.wb_syntax_expressions.specs.declared.node.Node.TheVariants as n
use Rattle.wb_syntax_resolved.specs.declared.attributes.Attribute.{Attribute}
use Rattle.wb_syntax_resolved.specs.declared.attributes.Direction.TheVariants.{Synthesized, Inherited}
use Rattle.wb_syntax_resolved.specs.declared.attributes.Nonterminal.{Nonterminal}
use Rattle.wb_syntax_resolved.specs.declared.attributes.Occurrence.{Occurrence}
use Rattle.wb_syntax_resolved.specs.declared.attribution.AttributionParts.{AttributionParts}
use Rattle.wb_syntax_resolved.specs.declared.equation.Equation.{Equation}
use Rattle.wb_syntax_resolved.specs.declared.equation.Target.{Target}
use Rattle.wb_syntax_resolved.specs.declared.equation.Target.TheVariants as target
use Rattle.wb_syntax_resolved.specs.declared.production.Child.{Child}
use Rattle.wb_syntax_resolved.specs.declared.production.ChildKind.{ChildKind}
use Rattle.wb_syntax_resolved.specs.declared.production.ChildKind.TheVariants as child
use Rattle.wb_syntax_resolved.specs.declared.production.Forward.{Forward}
use Rattle.wb_syntax_resolved.specs.declared.production.Local.{Local}
use Rattle.wb_syntax_resolved.specs.declared.production.Production.{Production}
use Rattle.wb_syntax_resolved.specs.declared.production.ProductionRole.{ProductionRole}
use Rattle.wb_syntax_resolved.specs.declared.production.ProductionRole.TheVariants.{Concrete, Abstract}
use Rattle.wb_syntax_resolved.specs.Expression.{Node}
use Rattle.wb_syntax_resolved.specs.Named.{IsNamedNode, IsNamedExpression, IsNamedTarget, IsNamedEquation, IsNamedLocal, IsChildKindOf}
use Rattle.wb_syntax_resolved.specs.Named.{IsNamedChild, IsNamedNonterminal, IsNamedAttribute, IsNamedOccurrence}
use Rattle.wb_syntax_resolved.specs.Owners.{Sees, IsOwner}
use Rattle.wb_syntax_resolved.specs.Visible.{SeesOccurrence}
use Rattle.wb_compose_theory_attributes.specs.Numbers.{NumberMap}
use Rattle.wb_compose_theory_attributes.specs.Rows.{new_owner, new_kind, new_child_kind, new_child, new_nonterminal, new_attribute}
use Rattle.wb_compose_theory_attributes.specs.Rows.{new_occurrence}
use Rattle.wb_compose_theory_attributes.specs.Rows.{new_node, new_target, new_equation, new_local, new_forward}
use Rattle.wb_compose_theory_attributes.specs.Seen.{IsSeenProduction, IsSeen}
use Rattle.wb_compose_theory_attributes.proofs.ExpressionLemmas.{whole_new}
use Rattle.wb_compose_theory_attributes.proofs.SeenLemmas.{sees_new, new_within, sees_nonterminal, sees_attribute, sees_production}
use Rattle.wb_compose_theory_attributes.proofs.SeenLemmas.{sees_occurrence}
use Rattle.wb_compose_theory_attributes.proofs.SeenLemmas.{sees_kind, sees_place, forwards_new}

module _ (s a : AttributionParts) (k : ℕ) (t : NumberMap) (seen : IsSeen s a k t) (bound : k ≤ length a.extensions) where
  owner_within : (owner : ℕ) → IsOwner a.extensions (new_owner k owner)
  owner_within owner = new_within k (length a.extensions) owner bound

  needs_new : (owner m : ℕ) (needs : List ℕ) → All (λ i. SeesOccurrence s owner Inherited i m) needs
      → All (λ i. SeesOccurrence a (new_owner k owner) Inherited i (t.nonterminal m)) (map t.attribute needs)
  needs_new owner m needs each =
      All-map (λ i. SeesOccurrence a (new_owner k owner) Inherited i (t.nonterminal m)) t.attribute needs
      (all_weaker (λ i. SeesOccurrence s owner Inherited i m)
      (λ i. SeesOccurrence a (new_owner k owner) Inherited (t.attribute i) (t.nonterminal m)) needs
      (λ i. sees_occurrence s a k t seen owner Inherited i m) each)

  pub nonterminal_new : (m : ℕ) (r : Nonterminal) → IsNamedNonterminal s m r
      → IsNamedNonterminal a (t.nonterminal m) (new_nonterminal t k r)
  nonterminal_new m r good =
      record { owner = owner_within r.owner; name = good.name; needs = needs_new r.owner m r.forward_needs good.needs }

  pub attribute_new : (r : Attribute) → IsNamedAttribute s r → IsNamedAttribute a (new_attribute t k r)
  attribute_new r good =
      record { owner = owner_within r.owner; name = good.name; is_kind = sees_kind s a k t seen r.owner r.kind good.is_kind }

  pub occurrence_new : (r : Occurrence) → IsNamedOccurrence s r → IsNamedOccurrence a (new_occurrence t k r)
  occurrence_new r good = record {
    owner = owner_within r.owner;
    direction = good.direction;
    attribute = sees_attribute s a k t seen r.owner good.direction r.attribute good.attribute;
    nonterminal = sees_nonterminal s a k t seen r.owner r.nonterminal good.nonterminal;
    needs = needs_new r.owner r.nonterminal r.needs good.needs;
    inherited = λ is. ap (map t.attribute) (good.inherited is);
  }

  module _ (p : ℕ) (row there : Production) (same : IsSeenProduction t k p row there) where
    node_new : (owner : ℕ) (node : Node) → IsNamedNode s row owner node → IsNamedNode a there (new_owner k owner) (new_node t p node)
    node_new owner (n.Label at) (is, sees) = (new_kind t is, sees_place t k p row there same owner at (child.Value is) sees)
    node_new owner (n.Read at x) (m, sees, occurs) = (
      t.nonterminal m,
      sees_place t k p row there same owner at (child.Value (kind.Tree m)) sees,
      sees_occurrence s a k t seen owner Synthesized x m occurs,
    )
    node_new owner (n.Lexeme at) (number, sees) =
        (t.terminal number, sees_place t k p row there same owner at (child.Terminal number) sees)
    node_new owner (n.Top x) occurs =
        subst (SeesOccurrence a (new_owner k owner) Inherited (t.attribute x)) (sym same.left)
        (sees_occurrence s a k t seen owner Inherited x row.left occurs)
    node_new owner (n.Forward x) (forwards, occurs) = (
      forwards_new t k p row there same forwards,
      subst (SeesOccurrence a (new_owner k owner) Synthesized (t.attribute x)) (sym same.left)
          (sees_occurrence s a k t seen owner Synthesized x row.left occurs),
    )
    node_new owner (n.Build number children) sees = sees_production s a k t seen owner number sees
    node_new owner (n.Call operation arguments) good = good
    node_new owner node good = tt

    pub expression_new : (owner : ℕ) (nodes : List Node) → IsNamedExpression s row owner nodes
        → IsNamedExpression a there (new_owner k owner) (map (new_node t p) nodes)
    expression_new owner nodes good = record {
      whole = whole_new t p nodes good.whole;
      named = All-map (IsNamedNode a there (new_owner k owner)) (new_node t p) nodes
          (all_weaker (IsNamedNode s row owner) (λ node. IsNamedNode a there (new_owner k owner) (new_node t p node)) nodes
          (node_new owner) good.named);
    }

    target_new : (owner : ℕ) (to : Target) → IsNamedTarget s row owner to → IsNamedTarget a there (new_owner k owner) (new_target t p to)
    target_new owner (target.Top x) occurs =
        subst (SeesOccurrence a (new_owner k owner) Synthesized (t.attribute x)) (sym same.left)
        (sees_occurrence s a k t seen owner Synthesized x row.left occurs)
    target_new owner (target.Place at x) (m, sees, occurs) = (
      t.nonterminal m,
      sees_place t k p row there same owner at (child.Value (kind.Tree m)) sees,
      sees_occurrence s a k t seen owner Inherited x m occurs,
    )
    target_new owner (target.Forward x) (forwards, occurs) = (
      forwards_new t k p row there same forwards,
      subst (SeesOccurrence a (new_owner k owner) Inherited (t.attribute x)) (sym same.left)
          (sees_occurrence s a k t seen owner Inherited x row.left occurs),
    )

    there_new : (owner : ℕ) → Sees owner row.owner → Sees (new_owner k owner) there.owner
    there_new owner sees = subst (Sees (new_owner k owner)) (sym same.owner) (sees_new k owner row.owner sees)

    pub equation_new : (e : Equation) → IsNamedEquation s row e → IsNamedEquation a there (new_equation t p k e)
    equation_new e good = record {
      owner = owner_within e.owner;
      there = there_new e.owner good.there;
      target = target_new e.owner e.target good.target;
      value = expression_new e.owner e.nodes good.value;
    }

    pub local_new : (l : Local) → IsNamedLocal s row l → IsNamedLocal a there (new_local t p k l)
    local_new l good = record {
      owner = owner_within l.owner;
      there = there_new l.owner good.there;
      label = good.label;
      nonterminal = sees_nonterminal s a k t seen l.owner l.nonterminal good.nonterminal;
      value = expression_new l.owner l.nodes good.value;
    }

    child_kind_new : (owner : ℕ) (role : ProductionRole) (is : ChildKind) → IsChildKindOf s owner role is
        → IsChildKindOf a (new_owner k owner) role (new_child_kind t is)
    child_kind_new owner Concrete (child.Terminal number) good = tt
    child_kind_new owner Concrete (child.Value is) (m, known, sees) =
        (t.nonterminal m, ap (new_kind t) known, sees_nonterminal s a k t seen owner m sees)
    child_kind_new owner Abstract (child.Terminal number) good = absurd good
    child_kind_new owner Abstract (child.Value is) good = sees_kind s a k t seen owner is good

    child_new : (c : Child) → IsNamedChild s row c → IsNamedChild a there (new_child t c)
    child_new c good = record {
      label = good.label;
      is_kind = subst (λ z. IsChildKindOf a z there.role (new_child_kind t c.kind)) (sym same.owner)
          (subst (λ z. IsChildKindOf a (new_owner k row.owner) z (new_child_kind t c.kind)) (sym same.role)
          (child_kind_new row.owner row.role c.kind good.is_kind));
    }

    pub children_new : All (IsNamedChild s row) row.children → All (IsNamedChild a there) there.children
    children_new each =
        subst (All (IsNamedChild a there)) (sym same.children) (All-map (IsNamedChild a there) (new_child t) row.children
        (all_weaker (IsNamedChild s row) (λ c. IsNamedChild a there (new_child t c)) row.children child_new each))

    forward_in : (o : Option Forward) → IfSome o (λ (f : Forward). IsNamedExpression s row row.owner f.nodes)
        → IfSome (option_map (new_forward t p) o) (λ (f : Forward). IsNamedExpression a there there.owner f.nodes)
    forward_in None good = tt
    forward_in (Some f) good =
        subst (λ z. IsNamedExpression a there z (map (new_node t p) f.nodes)) (sym same.owner) (expression_new row.owner f.nodes good)

    pub forward_new : IfSome row.forward (λ (f : Forward). IsNamedExpression s row row.owner f.nodes)
        → IfSome there.forward (λ (f : Forward). IsNamedExpression a there there.owner f.nodes)
    forward_new good =
        subst (λ z. IfSome z (λ (f : Forward). IsNamedExpression a there there.owner f.nodes)) (sym same.forward)
        (forward_in row.forward good)
