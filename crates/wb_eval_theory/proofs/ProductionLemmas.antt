-- What the expressions of a production are: one for each rule, of the kind that its vertex asks for.
use Rattle.std.proofs.Common.{◌≡◌, ◌∙◌, ℕ, List, Option, Some, None, refl, sym, subst, ap, slice_get, Contains}
use Rattle.std.specs.Prelude.{option_map, is_some, IsSome}
use Rattle.std.proofs.lemmas.Option.{same_Some}
use Rattle.wb_flow_theory.proofs.EdgeLemmas.{rule_named, rule_vertex, edges_within}
use Rattle.wb_flow_theory.specs.Flow.{IsVertex}
use Rattle.wb_flow_theory.specs.Rules.{Forwards, IsBelow, IsRule, HasRule, target_vertex}
use Rattle.wb_flow_theory.specs.Rules as rules
use Rattle.wb_flow_theory.specs.Vertices.{local, forward, Step, child, made, Vertex, top_synthesized, top_inherited, synthesized}
use Rattle.wb_flow_theory.specs.Vertices.{inherited, tree_of}
use Rattle.wb_flow_theory.specs.WellDefined.{IsWellDefinedProduction}
use Rattle.wb_base.specs.declared.symbol.Kind.{Kind}
use Rattle.wb_base.specs.declared.symbol.Kind.TheVariants as kind
use Rattle.wb_syntax_expressions.specs.Expression.{nodes_of}
use Rattle.wb_lemmas.proofs.Elements.{all_contained}
use Rattle.wb_lemmas.proofs.Members.{contains_at}
use Rattle.wb_syntax_resolved.specs.declared.attributes.Attribute.{Attribute}
use Rattle.wb_syntax_resolved.specs.declared.attributes.Direction.{Direction}
use Rattle.wb_syntax_resolved.specs.declared.equation.Target.{Target}
use Rattle.wb_syntax_resolved.specs.declared.equation.Target.TheVariants as target
use Rattle.wb_syntax_resolved.specs.declared.production.ChildKind.TheVariants as child_kind
use Rattle.wb_syntax_resolved.specs.declared.production.Forward.{Forward}
use Rattle.wb_syntax_resolved.specs.declared.production.Local.{Local}
use Rattle.wb_syntax_resolved.specs.declared.production.Production.{Production}
use Rattle.wb_syntax_resolved.specs.Expression.{Expression, Node}
use Rattle.wb_syntax_resolved.specs.Named.{IsNamedNode, IsNamedEquation, IsNamedProduction, IsNamedTarget}
use Rattle.wb_syntax_resolved.specs.Visible.{SeesOccurrence}
use Rattle.wb_types.specs.Expected.{IsExpected, attribute_of}
use Rattle.wb_types.specs.Expected as expected
use Rattle.wb_types.specs.Kinds.{HasKind, IsAttributeKind}
use Rattle.wb_eval_theory.proofs.ExpressionLemmas.{IsIn, listed}
use Rattle.wb_eval_theory.proofs.ReadBackLemmas.{is_read_back}
use Rattle.wb_eval_theory.proofs.RuleLemmas.{rule_read_in}
use Rattle.wb_eval_theory.proofs.Settings.{Setting, IsOf, Edge}
use Rattle.wb_eval_theory.specs.Rules.{expression_of, rule_of}

-- one nonterminal is one step down
pub one_below : (production : Production) (s : Step) (m k : ℕ) → IsBelow production s m → IsBelow production s k → m ≡ k
one_below production (child c) m k is other = let h : Some (child_kind.Value (kind.Tree m)) ≡ Some (child_kind.Value (kind.Tree k)) = sym is ∙ other in cc
one_below production (made (local c)) m k is other =
    let h : Some (child_kind.Value (kind.Tree m)) ≡ Some (child_kind.Value (kind.Tree k)) = sym is ∙ other in cc
one_below production (made forward) m k is other = sym is.1 ∙ other.1

-- what is not there is not some
pub not_some : {X : Type 0} (o : Option X) (z : X) → o ≡ None → o ≡ Some z → ⊥
not_some o z none some = cc

-- the kind that the expression of a vertex must have
abbrev pub IsKindOf : Setting → Production → Vertex → Kind → Type 0
IsKindOf s production (top_synthesized y) k = IsAttributeKind s.attribution y k
IsKindOf s production (top_inherited y) k = IsAttributeKind s.attribution y k
IsKindOf s production (synthesized t y) k = IsAttributeKind s.attribution y k
IsKindOf s production (inherited t y) k = IsAttributeKind s.attribution y k
IsKindOf s production (tree_of m) k = (nonterminal : ℕ) × IsBelow production (made m) nonterminal × (k ≡ kind.Tree nonterminal)

-- what is known of a node of an expression
abbrev pub IsNode : Setting → Production → Node → Type 0
IsNode s production node = (owner : ℕ) × IsNamedNode s.attribution production owner node

-- an expression of a production, by the rule that it is
pub record IsExpression (s : Setting) (production : Production) (v : Vertex) (e : Expression) : Type 0 where
  pub rule : IsRule production v (nodes_of e)
  pub kind : Kind
  pub asked : IsKindOf s production v kind
  pub has_kind : HasKind s.attribution s.operations.signatures production e kind
  pub named : (node : Node) → IsIn e node → IsNode s production node

module _ (s : Setting) (number : ℕ) (production : Production) (is : IsOf s number production) where
  pub in_list : Contains s.attribution.productions production
  in_list = contains_at s.attribution.productions production number is

  pub well_defined : IsWellDefinedProduction s.attribution production
  well_defined = s.evaluable.productions number production is

  named_production : IsNamedProduction s.attribution production
  named_production =
      all_contained (IsNamedProduction s.attribution) s.attribution.productions production s.evaluable.attribution.named.productions in_list

  -- what a rule defines is a vertex
  pub vertex_of : (v : Vertex) (nodes : List Node) → IsRule production v nodes → IsVertex s.attribution production v
  vertex_of v nodes rule = rule_vertex s.attribution production named_production v nodes rule

  -- edges lead to vertices
  pub edge_end : (v w : Vertex) → Edge s production v w → IsVertex s.attribution production w
  edge_end v w e = (edges_within s.attribution s.evaluable.attribution production in_list v w e).1

  -- the nodes of a rule are an expression
  whole_of : (v : Vertex) (nodes : List Node) → IsRule production v nodes → (e : Expression) × (nodes ≡ nodes_of e)
  whole_of v nodes rule = (rule_named s.attribution production named_production v nodes rule).1.whole

  -- it is the one of the vertex
  pub has_rule : (v : Vertex) → HasRule production v → (e : Expression) × (rule_of production v ≡ Some e)
  has_rule v (nodes, rule) =
      let (e, is_of) = whole_of v nodes rule in
      (e, (rule_read_in s.attribution s.evaluable.attribution production in_list v e).1 (nodes, rule, ap expression_of is_of ∙ is_read_back e))

  pub no_rule : (v : Vertex) → rule_of production v ≡ None → ¬ HasRule production v
  no_rule v none has = let (e, some) = has_rule v has in not_some (rule_of production v) e none some

  -- and the other way round
  pub rule_nodes : (v : Vertex) (e : Expression) → rule_of production v ≡ Some e → IsRule production v (nodes_of e)
  rule_nodes v e some =
      let (nodes, rule, read) = (rule_read_in s.attribution s.evaluable.attribution production in_list v e).0 some in
      let (d, is_of) = whole_of v nodes rule in
      let same : Some d ≡ Some e = sym (is_read_back d) ∙ ap expression_of (sym is_of) ∙ read in
      subst (IsRule production v) (is_of ∙ ap nodes_of (same_Some d e same)) rule

  -- an attribute that is seen has a kind
  seen_kind : (owner : ℕ) (direction : Direction) (y m : ℕ) → SeesOccurrence s.attribution owner direction y m
      → (k : Kind) × IsAttributeKind s.attribution y k
  seen_kind owner direction y m seen =
      (seen.attribute.attribute.kind, ap (option_map (λ (r : Attribute). r.kind)) seen.attribute.is)

  target_kind : (owner : ℕ) (t : Target) → IsNamedTarget s.attribution production owner t
      → (k : Kind) × IsAttributeKind s.attribution (attribute_of t) k × IsKindOf s production (target_vertex t) k
  target_kind owner (target.Top y) seen = let (k, has) = seen_kind owner _ y production.left seen in (k, has, has)
  target_kind owner (target.Place at y) (m, there, seen) = let (k, has) = seen_kind owner _ y m seen in (k, has, has)
  target_kind owner (target.Forward y) (some, seen) = let (k, has) = seen_kind owner _ y production.left seen in (k, has, has)

  local_below : (c : ℕ) (l : Local) → slice_get production.locals c ≡ Some l → IsBelow production (made (local c)) l.nonterminal
  local_below c l at = ap (option_map (λ (z : Local). child_kind.Value (kind.Tree z.nonterminal))) at

  -- a rule's kind
  rule_expected : (v : Vertex) (nodes : List Node) → IsRule production v nodes
      → (k : Kind) × (offset : ℕ) × IsKindOf s production v k × IsExpected s.attribution production nodes k offset
  rule_expected v nodes (rules.by_equation e at target_is nodes_are) =
      let named = all_contained (IsNamedEquation s.attribution production) production.equations e named_production.equations at in
      let (k, has, asked) = target_kind e.owner e.target named.target in
      (k, e.offset, subst (λ (w : Vertex). IsKindOf s production w k) (sym target_is) asked, expected.equation e at nodes_are has refl)
  rule_expected v nodes (rules.by_local c l at target_is nodes_are) = (
    kind.Tree l.nonterminal,
    l.offset,
    subst (λ (w : Vertex). IsKindOf s production w (kind.Tree l.nonterminal)) (sym target_is) (l.nonterminal, local_below c l at, refl),
    expected.local l (contains_at production.locals l c at) nodes_are refl refl,
  )
  rule_expected v nodes (rules.by_forward f at target_is nodes_are) = (
    kind.Tree production.left,
    f.offset,
    subst (λ (w : Vertex). IsKindOf s production w (kind.Tree production.left)) (sym target_is)
        (production.left, (ap is_some at, refl), refl),
    expected.forward f at nodes_are refl refl,
  )

  pub expression_at : (v : Vertex) (e : Expression) → rule_of production v ≡ Some e → IsExpression s production v e
  expression_at v e some =
      let rule = rule_nodes v e some in
      let (k, offset, asked, wanted) = rule_expected v (nodes_of e) rule in
      let (d, same, has) = s.evaluable.kinds.kinds production (nodes_of e) k offset in_list wanted in
      let read : Some e ≡ Some d = sym (is_read_back e) ∙ ap expression_of same ∙ is_read_back d in
      let (owner, whole) = rule_named s.attribution production named_production v (nodes_of e) rule in
      record {
        rule = rule;
        kind = k;
        asked = asked;
        has_kind = subst (λ (z : Expression). HasKind s.attribution s.operations.signatures production z k) (sym (same_Some e d read)) has;
        named = λ node within.
            (owner, all_contained (IsNamedNode s.attribution production owner) (nodes_of e) node whole.named (listed 0 e node within));
      }

  -- what forwards has the expression of its forward
  pub forward_rule : Forwards production → (e : Expression) × (rule_of production (tree_of forward) ≡ Some e)
  forward_rule some = has_rule (tree_of forward) (by_case production.forward refl some) where
    by_case : (f : Option Forward) → production.forward ≡ f → IsSome f → HasRule production (tree_of forward)
    by_case None at holds = absurd (cc holds)
    by_case (Some f) at holds = (f.nodes, rules.by_forward f at refl refl)
