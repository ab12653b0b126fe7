-- A production that an owner sees has there what it has in the view: trees one step down, and rules.
use Rattle.std.proofs.Common.{◌≡◌, ◌∙◌, ℕ, List, Option, Some, None, map, option_map, slice_get, refl, sym, ap, subst}
use Rattle.std.specs.Prelude.{IsSome}
use Rattle.std.proofs.lemmas.Option.{same_Some}
use Rattle.wb_lemmas.proofs.Elements.{all_at, all_contained}
use Rattle.wb_flow_theory.specs.Rules.{IsBelow, target_vertex}
use Rattle.wb_flow_theory.specs.Vertices.{local, forward, Step, child, made, Vertex, tree_of}
use Rattle.wb_base.specs.declared.symbol.Kind.TheVariants as kind
use Rattle.wb_syntax_resolved.specs.declared.attribution.AttributionParts.{AttributionParts}
use Rattle.wb_syntax_resolved.specs.declared.equation.Equation.{Equation}
use Rattle.wb_syntax_resolved.specs.declared.equation.Place.TheVariants as place
use Rattle.wb_syntax_resolved.specs.declared.equation.Target.{Target}
use Rattle.wb_syntax_resolved.specs.declared.equation.Target.TheVariants as target
use Rattle.wb_syntax_resolved.specs.declared.production.Child.{Child}
use Rattle.wb_syntax_resolved.specs.declared.production.ChildKind.{ChildKind}
use Rattle.wb_syntax_resolved.specs.declared.production.ChildKind.TheVariants as child_kind
use Rattle.wb_syntax_resolved.specs.declared.production.Forward.{Forward}
use Rattle.wb_syntax_resolved.specs.declared.production.Local.{Local}
use Rattle.wb_syntax_resolved.specs.declared.production.Production.{Production}
use Rattle.wb_syntax_resolved.specs.Expression.{Node}
use Rattle.wb_syntax_resolved.specs.Named.{IsNamedEquation, IsNamedLocal}
use Rattle.wb_syntax_resolved.specs.Owners.{Sees, IsOwner}
use Rattle.wb_compose_theory_worlds.proofs.NamedLemmas.{IsRuleOf, of_equation, of_local, of_forward}
use Rattle.wb_compose_theory_attributes.specs.Numbers.{NumberMap, new_step, new_vertex}
use Rattle.wb_compose_theory_attributes.specs.Rows.{new_owner, new_child_kind, new_child, new_node, new_target, new_forward}
use Rattle.wb_compose_theory_attributes.specs.Seen.{IsSeenProduction}
use Rattle.wb_compose_theory_attributes.proofs.SeenLemmas.{mapped, child_there, kind_new, forwards_new}
use Rattle.wb_compose_theory_attributes.proofs.UnionNamedLemmas.{row_named}
use Rattle.wb_compose_theory_attributes.proofs.ViewLemmas.{View, local_back}

-- the vertex of a target in new numbers
target_vertex_new : (t : NumberMap) (p : ℕ) (to : Target) → target_vertex (new_target t p to) ≡ new_vertex t p (target_vertex to)
target_vertex_new t p (target.Top x) = refl
target_vertex_new t p (target.Place (place.Child i) x) = refl
target_vertex_new t p (target.Place (place.Local y) x) = refl
target_vertex_new t p (target.Forward x) = refl

-- a tree in new numbers comes from a tree
tree_back : (t : NumberMap) (is : ChildKind) (m : ℕ) → new_child_kind t is ≡ child_kind.Value (kind.Tree m)
    → (from : ℕ) × (is ≡ child_kind.Value (kind.Tree from)) × (m ≡ t.nonterminal from)
tree_back t (child_kind.Terminal number) m same = absurd (cc same)
tree_back t (child_kind.Value kind.Int) m same = absurd (cc same)
tree_back t (child_kind.Value kind.Bool) m same = absurd (cc same)
tree_back t (child_kind.Value kind.Text) m same = absurd (cc same)
tree_back t (child_kind.Value (kind.Tree from)) m same =
    let equal : t.nonterminal from ≡ m = cc same in (from, refl, sym equal)

module _ (t : NumberMap) (k p : ℕ) (row there : Production) (same : IsSeenProduction t k p row there) where
  pub below_new : (s : Step) (m : ℕ) → IsBelow row s m → IsBelow there (new_step t p s) (t.nonterminal m)
  below_new (child i) m known = kind_new t k p row there same (place.Child i) (child_kind.Value (kind.Tree m)) known
  below_new (made (local x)) m known = kind_new t k p row there same (place.Local x) (child_kind.Value (kind.Tree m)) known
  below_new (made forward) m (forwards, left) =
      (forwards_new t k p row there same forwards, same.left ∙ ap t.nonterminal left)

  forwards_in : (o : Option Forward) (other : Option Forward) → other ≡ option_map (new_forward t p) o → IsSome other → IsSome o
  forwards_in None other is some = absurd (cc (is, some))
  forwards_in (Some f) other is some = refl

  pub forwards_back : IsSome there.forward → IsSome row.forward
  forwards_back = forwards_in row.forward there.forward same.forward

  abbrev BelowBack : Step → ℕ → Type 0
  BelowBack r n = (s : Step) × (m : ℕ) × IsBelow row s m × (r ≡ new_step t p s) × (n ≡ t.nonterminal m)

  child_below_back : (i n : ℕ) (o : Option Child) → slice_get row.children i ≡ o
      → option_map (λ (c : Child). c.kind) (option_map (new_child t) o) ≡ Some (child_kind.Value (kind.Tree n)) → BelowBack (child i) n
  child_below_back i n None at known = absurd (cc known)
  child_below_back i n (Some c) at known =
      let (m, is, n_is) = tree_back t c.kind n (same_Some (new_child_kind t c.kind) (child_kind.Value (kind.Tree n)) known) in
      (child i, m, ap (option_map (λ (z : Child). z.kind)) at ∙ ap Some is, refl, n_is)

  pub child_back : (i n : ℕ) → IsBelow there (child i) n → BelowBack (child i) n
  child_back i n known =
      child_below_back i n (slice_get row.children i) refl
      (sym (ap (option_map (λ (c : Child). c.kind)) (child_there t k p row there same i)) ∙ known)

  pub forward_back : (n : ℕ) → IsBelow there (made forward) n → BelowBack (made forward) n
  forward_back n (forwards, left) = (made forward, row.left, (forwards_back forwards, refl), refl, sym left ∙ same.left)

  -- rules, and whose they are
  pub rule_new : (v : Vertex) (owner : ℕ) (nodes : List Node) → IsRuleOf row v owner nodes
      → IsRuleOf there (new_vertex t p v) (new_owner k owner) (map (new_node t p) nodes)
  rule_new v owner nodes (of_equation e has target owner_is known) =
      of_equation _ (same.equations e has) (ap (new_vertex t p) target ∙ sym (target_vertex_new t p e.target)) (ap (new_owner k) owner_is)
      (ap (map (new_node t p)) known)
  rule_new v owner nodes (of_local x l has target owner_is known) =
      of_local (t.local_in p x) _ (same.locals x l has) (ap (new_vertex t p) target) (ap (new_owner k) owner_is)
      (ap (map (new_node t p)) known)
  rule_new v owner nodes (of_forward f has target owner_is known) =
      of_forward _ (same.forward ∙ ap (option_map (new_forward t p)) has) (ap (new_vertex t p) target)
      (ap (new_owner k) owner_is ∙ sym same.owner) (ap (map (new_node t p)) known)

module _ (a : AttributionParts) (k : ℕ) (v : View a k) (p : ℕ) (row there : Production) (has : slice_get v.s.productions p ≡ Some row)
    (same : IsSeenProduction v.t k p row there) where
  -- a rule of a production of a comes from one in the view, where k sees its writer
  pub record RuleBack (y : Vertex) (f : List Node) : Type 0 where
    pub vertex : Vertex
    pub owner : ℕ
    pub nodes : List Node
    pub rule : IsRuleOf row vertex owner nodes
    pub within : IsOwner v.s.extensions owner
    pub vertex_is : y ≡ new_vertex v.t p vertex
    pub nodes_are : f ≡ map (new_node v.t p) nodes

  pub rule_back : (y : Vertex) (owner : ℕ) (f : List Node) → IsRuleOf there y owner f → Sees k owner → RuleBack y f
  rule_back y owner f (of_equation e listed target owner_is known) sees =
      let (from, there_from, e_is) = same.equations_from e listed (subst (Sees k) owner_is sees) in
      record {
        vertex = target_vertex from.target;
        owner = from.owner;
        nodes = from.nodes;
        rule = of_equation from there_from refl refl refl;
        within = (all_contained (IsNamedEquation v.s row) row.equations from (row_named a k v p row has).equations there_from).owner;
        vertex_is = target ∙ (ap (λ (z : Equation). target_vertex z.target) e_is ∙ target_vertex_new v.t p from.target);
        nodes_are = known ∙ ap (λ (z : Equation). z.nodes) e_is;
      }
  rule_back y owner f (of_local number l at target owner_is known) sees =
      let (x, from, at_from, is, equal) = local_back a k v p row there same number l at (subst (Sees k) owner_is sees) in
      record {
        vertex = tree_of (local x);
        owner = from.owner;
        nodes = from.nodes;
        rule = of_local x from at_from refl refl refl;
        within = (all_at (IsNamedLocal v.s row) row.locals x from (row_named a k v p row has).locals at_from).owner;
        vertex_is = target ∙ ap (λ z. tree_of (local z)) is;
        nodes_are = known ∙ sym (ap (λ (z : Local). z.nodes) equal);
      }
  rule_back y owner f (of_forward g is target owner_is known) sees =
      let (from, has_from, equal) = mapped (new_forward v.t p) row.forward g (sym same.forward ∙ is) in
      record {
        vertex = tree_of forward;
        owner = row.owner;
        nodes = from.nodes;
        rule = of_forward from has_from refl refl refl;
        within = (row_named a k v p row has).owner;
        vertex_is = target;
        nodes_are = known ∙ sym (ap (λ (z : Forward). z.nodes) equal);
      }
