-- A production in other numbers has the rules that it had, in new numbers.
use Rattle.std.proofs.Common.{◌≡◌, ◌∙◌, ◌∷◌, [], ℕ, zero, suc, List, Option, Some, None, length, map, option_map, slice_get, refl, sym, ap}
use Rattle.std.proofs.Common.{subst}
use Rattle.wb_flow_theory.specs.Rules as rules
use Rattle.wb_flow_theory.specs.Rules.{IsRule, target_vertex}
use Rattle.wb_flow_theory.specs.Vertices.{Made, local, forward, Step, child, made, Vertex, top_synthesized, top_inherited, synthesized}
use Rattle.wb_flow_theory.specs.Vertices.{inherited, tree_of}
use Rattle.wb_eval_theory.proofs.RuleLemmas.{rule_read_in}
use Rattle.wb_eval_theory.specs.Rules.{expression_of, last_of, only_one, read_more, read_node, rule_of, with_branches, with_parts}
use Rattle.wb_eval_theory.specs.Walks.{rule_at, tree_rule}
use Rattle.wb_syntax_expressions.specs.declared.node.Node.TheVariants as n
use Rattle.wb_syntax_expressions.specs.Expression as x
use Rattle.wb_lemmas.proofs.Members.{contains_at}
use Rattle.wb_operations.specs.Operations.{Operations}
use Rattle.wb_syntax_resolved.specs.Attribution.{IsAttribution}
use Rattle.wb_syntax_resolved.specs.declared.attribution.AttributionParts.{AttributionParts}
use Rattle.wb_syntax_resolved.specs.declared.equation.Place.TheVariants as place
use Rattle.wb_syntax_resolved.specs.declared.equation.Target.{Target}
use Rattle.wb_syntax_resolved.specs.declared.equation.Target.TheVariants as target
use Rattle.wb_syntax_resolved.specs.declared.production.Production.{Production}
use Rattle.wb_syntax_resolved.specs.Expression.{Expression, Expressions, Node}
use Rattle.wb_compose_theory_attributes.proofs.ExpressionLemmas.{new_expression, new_expressions}
use Rattle.wb_compose_theory_attributes.specs.Numbers.{NumberMap, new_made, new_step, new_vertex}
use Rattle.wb_compose_theory_attributes.specs.Rows.{new_forward, new_node, new_target}
use Rattle.wb_values.specs.Tree.{Tree, node, production_of}
use Rattle.wb_compose_theory_attribute_order.specs.Attributions.{AttributionLeadsTo, IsSameAttribution, ProductionLeadsTo, renamed_equation}
use Rattle.wb_compose_theory_attribute_order.specs.Attributions.{renamed_local}
use Rattle.wb_compose_theory_attribute_order.specs.Renumberings.{AreNumbersUndoneBy, Renumbering}
use Rattle.wb_compose_theory_attribute_order.specs.Values.{renamed_tree}
use Rattle.wb_compose_theory_attribute_order.proofs.RowLemmas.{both_ways}

-- vertices there and back
module _ {t u : NumberMap} (undone : AreNumbersUndoneBy t u) (p : ℕ) where
  pub made_back : (m : Made) → new_made u (t.production p) (new_made t p m) ≡ m
  made_back (local y) = ap local (undone.local_in p y)
  made_back forward = refl

  step_back : (s : Step) → new_step u (t.production p) (new_step t p s) ≡ s
  step_back (child k) = refl
  step_back (made m) = ap made (made_back m)

  vertex_back : (v : Vertex) → new_vertex u (t.production p) (new_vertex t p v) ≡ v
  vertex_back (top_synthesized y) = ap top_synthesized (undone.attribute y)
  vertex_back (top_inherited y) = ap top_inherited (undone.attribute y)
  vertex_back (synthesized s y) = let one = step_back s in let other = undone.attribute y in λ i. synthesized (one i) (other i)
  vertex_back (inherited s y) = let one = step_back s in let other = undone.attribute y in λ i. inherited (one i) (other i)
  vertex_back (tree_of m) = ap tree_of (made_back m)

module _ (t : NumberMap) (p : ℕ) where
  -- the vertex of a target
  pub target_renamed : (to : Target) → target_vertex (new_target t p to) ≡ new_vertex t p (target_vertex to)
  target_renamed (target.Top y) = refl
  target_renamed (target.Place (place.Child k) y) = refl
  target_renamed (target.Place (place.Local k) y) = refl
  target_renamed (target.Forward y) = refl

  -- what is read back from nodes
  abbrev in_new : List Expression → List Expression
  in_new = map (new_expression t p)

  abbrev found_in_new : Expressions × List Expression → Expressions × List Expression
  found_in_new found = (new_expressions t p found.0, in_new found.1)

  last_renamed : (count : ℕ) (read : List Expression) (parts : Expressions)
      → last_of count (in_new read) (new_expressions t p parts) ≡ option_map found_in_new (last_of count read parts)
  last_renamed zero read parts = refl
  last_renamed (suc count) [] parts = refl
  last_renamed (suc count) (e ∷ read) parts = last_renamed count read (x.more e parts)

  build_renamed : (q : ℕ) (o : Option (Expressions × List Expression))
      → with_parts (x.Build (t.production q)) (option_map found_in_new o) ≡ option_map in_new (with_parts (x.Build q) o)
  build_renamed q None = refl
  build_renamed q (Some found) = refl

  call_renamed : (name : List ℕ) (o : Option (Expressions × List Expression))
      → with_parts (x.Call name) (option_map found_in_new o) ≡ option_map in_new (with_parts (x.Call name) o)
  call_renamed name None = refl
  call_renamed name (Some found) = refl

  branches_renamed : (read : List Expression) → with_branches (in_new read) ≡ option_map in_new (with_branches read)
  branches_renamed [] = refl
  branches_renamed (e ∷ []) = refl
  branches_renamed (e ∷ f ∷ []) = refl
  branches_renamed (e ∷ f ∷ g ∷ read) = refl

  node_renamed : (m : Node) (read : List Expression) → read_node (new_node t p m) (in_new read) ≡ option_map in_new (read_node m read)
  node_renamed (n.Int z) read = refl
  node_renamed (n.Text s) read = refl
  node_renamed (n.Bool b) read = refl
  node_renamed (n.Label at) read = refl
  node_renamed (n.Read at y) read = refl
  node_renamed (n.Lexeme at) read = refl
  node_renamed (n.Top y) read = refl
  node_renamed (n.Forward y) read = refl
  node_renamed (n.Build q children) read =
      ap (with_parts (x.Build (t.production q))) (last_renamed (length children) read x.none)
      ∙ build_renamed q (last_of (length children) read x.none)
  node_renamed (n.Call name arguments) read =
      ap (with_parts (x.Call name)) (last_renamed (length arguments) read x.none)
      ∙ call_renamed name (last_of (length arguments) read x.none)
  node_renamed (n.If c h f) read = branches_renamed read

  more_renamed : (nodes : List Node) (o : Option (List Expression))
      → read_more (map (new_node t p) nodes) (option_map in_new o) ≡ option_map in_new (read_more nodes o)
  more_renamed nodes None = refl
  more_renamed [] (Some read) = refl
  more_renamed (m ∷ nodes) (Some read) =
      ap (read_more (map (new_node t p) nodes)) (node_renamed m read) ∙ more_renamed nodes (read_node m read)

  one_renamed : (o : Option (List Expression)) → only_one (option_map in_new o) ≡ option_map (new_expression t p) (only_one o)
  one_renamed None = refl
  one_renamed (Some []) = refl
  one_renamed (Some (e ∷ [])) = refl
  one_renamed (Some (e ∷ f ∷ read)) = refl

  pub whole_renamed : (nodes : List Node) → expression_of (map (new_node t p) nodes) ≡ option_map (new_expression t p) (expression_of nodes)
  unfolding expression_of
  whole_renamed nodes = ap only_one (more_renamed nodes (Some [])) ∙ one_renamed (read_more nodes (Some []))

-- a rule of a production
rule_new : (r : Renumbering) (p : ℕ) (row there : Production) (v : Vertex) (nodes : List Node) → ProductionLeadsTo r p row there
    → IsRule row v nodes → IsRule there (new_vertex r.numbers p v) (map (new_node r.numbers p) nodes)
rule_new r p row there v nodes leads (rules.by_equation e listed target known) =
    rules.by_equation (renamed_equation r p e) (leads.equations e listed)
    (ap (new_vertex r.numbers p) target ∙ sym (target_renamed r.numbers p e.target)) (ap (map (new_node r.numbers p)) known)
rule_new r p row there v nodes leads (rules.by_local y l at is known) =
    rules.by_local (r.numbers.local_in p y) (renamed_local r p l) (leads.locals y l at) (ap (new_vertex r.numbers p) is)
    (ap (map (new_node r.numbers p)) known)
rule_new r p row there v nodes leads (rules.by_forward f at is known) =
    rules.by_forward (new_forward r.numbers p f) (leads.forward ∙ ap (option_map (new_forward r.numbers p)) at)
    (ap (new_vertex r.numbers p) is) (ap (map (new_node r.numbers p)) known)

module _ (operations : Operations) where
  -- the one attribution has the rules of the other, in new numbers, and no others
  abbrev pub HasSameRules : NumberMap → AttributionParts → AttributionParts → Type 0
  HasSameRules t a b = (p : ℕ) (v : Vertex) → rule_at operations b (slice_get b.productions (t.production p)) (new_vertex t p v)
      ≡ option_map (new_expression t p) (rule_at operations a (slice_get a.productions p) v)

  -- so each tree has its rules
  pub tree_rules : (t : NumberMap) (a b : AttributionParts) → HasSameRules t a b → (u : Tree) (v : Vertex)
      → tree_rule operations b (renamed_tree t u) (new_vertex t (production_of u) v)
      ≡ option_map (new_expression t (production_of u)) (tree_rule operations a u v)
  tree_rules t a b same (node p vs) v = same p v

  module _ {r : Renumbering} {a b : AttributionParts} (is : IsAttribution a) (ok : IsAttribution b) (leads : AttributionLeadsTo r a b) where
    abbrev t : NumberMap
    t = r.numbers

    production_rule : (p : ℕ) (row there : Production) → slice_get a.productions p ≡ Some row
        → slice_get b.productions (t.production p) ≡ Some there → ProductionLeadsTo r p row there → (v : Vertex) (e : Expression)
        → rule_of row v ≡ Some e → rule_of there (new_vertex t p v) ≡ Some (new_expression t p e)
    production_rule p row there at at' lead v e given =
        let (nodes, rule, nodes_are) = (rule_read_in a is row (contains_at a.productions row p at) v e).0 given in
        (rule_read_in b ok there (contains_at b.productions there (t.production p) at') (new_vertex t p v) (new_expression t p e)).1 (
          map (new_node t p) nodes,
          rule_new r p row there v nodes lead rule,
          whole_renamed t p nodes ∙ ap (option_map (new_expression t p)) nodes_are,
        )

    rule_there : (p : ℕ) (v : Vertex) (e : Expression) → rule_at operations a (slice_get a.productions p) v ≡ Some e
        → rule_at operations b (slice_get b.productions (t.production p)) (new_vertex t p v) ≡ Some (new_expression t p e)
    rule_there p v e given = go (slice_get a.productions p) refl given where
      go : (o : Option Production) → slice_get a.productions p ≡ o → rule_at operations a o v ≡ Some e
          → rule_at operations b (slice_get b.productions (t.production p)) (new_vertex t p v) ≡ Some (new_expression t p e)
      go None at given = absurd (cc given)
      go (Some row) at given =
          let (there, at', lead) = leads.productions p row at in
          ap (λ o. rule_at operations b o (new_vertex t p v)) at' ∙ production_rule p row there at at' lead v e given

  module _ {r s : Renumbering} {a b : AttributionParts} (is : IsAttribution a) (ok : IsAttribution b) (same : IsSameAttribution r s a b) where
    pub same_rules : HasSameRules r.numbers a b
    same_rules p v =
        both_ways (new_expression r.numbers p) (rule_at operations a (slice_get a.productions p) v)
        (rule_at operations b (slice_get b.productions (r.numbers.production p)) (new_vertex r.numbers p v))
        (rule_there is ok same.there p v) back where
          back : (e : Expression)
              → rule_at operations b (slice_get b.productions (r.numbers.production p)) (new_vertex r.numbers p v) ≡ Some e
              → (f : Expression) × (rule_at operations a (slice_get a.productions p) v ≡ Some f)
          back e given =
              let f = new_expression s.numbers (r.numbers.production p) e in (
                f,
                subst (λ z. rule_at operations a (slice_get a.productions z) v ≡ Some f) (same.undone.numbers.production p)
                    (subst (λ z. rule_at operations a (slice_get a.productions (s.numbers.production (r.numbers.production p))) z ≡ Some f)
                    (vertex_back same.undone.numbers p v)
                    (rule_there ok is same.back (r.numbers.production p) (new_vertex r.numbers p v) e given)),
              )
