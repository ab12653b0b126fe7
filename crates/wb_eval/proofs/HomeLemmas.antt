-- Where the walk of the instance at work begins: at the tree of its home, by the rule there.
use Rattle.std.proofs.Common.{◌≡◌, ◌≢◌, ◌∙◌, ◌⊎◌, ◌≤◌, ◌<◌, ◌-◌, inl, inr, ℕ, zero, suc, List, Option, Some, None, length, refl, sym, ap}
use Rattle.std.proofs.Common.{subst, arith, slice_get, Contains}
use Rattle.std.proofs.lemmas.Option.{slice_get_within}
use Rattle.wb_lemmas.proofs.Places.{at_within}
use Rattle.wb_flow_theory.proofs.RuleLemmas.{one_rule_in}
use Rattle.wb_flow_theory.specs.Modular.{IsProduction}
use Rattle.wb_flow_theory.specs.Rules.{IsRule, HasRule}
use Rattle.wb_flow_theory.specs.Vertices.{Made, child, made, local, forward, Vertex, top_synthesized, inherited, tree_of}
use Rattle.wb_flow_theory.specs.Vertices as vertices
use Rattle.wb_syntax_expressions.specs.Expression.{nodes_of}
use Rattle.wb_operations.specs.Operations.{Operations}
use Rattle.wb_syntax_resolved.specs.declared.attribution.AttributionParts.{AttributionParts}
use Rattle.wb_syntax_resolved.specs.declared.production.Production.{Production}
use Rattle.wb_syntax_resolved.specs.Expression.{Expression, Node}
use Rattle.wb_values.specs.declared.value.TreeId.{TreeId}
use Rattle.wb_values.specs.declared.value.Value.{Value}
use Rattle.wb_values.specs.Tree.{Tree, tree, production_of, children_of}
use Rattle.wb_values.specs.Tree as t
use Rattle.wb_values.specs.ValuesIn.{tree_in}
use Rattle.wb_eval_theory.proofs.KindLemmas.{node_fits, fit_of}
use Rattle.wb_eval_theory.proofs.LawLemmas.{setting_of}
use Rattle.wb_eval_theory.proofs.ProductionLemmas.{has_rule, rule_nodes, in_list}
use Rattle.wb_eval_theory.proofs.Settings.{Setting}
use Rattle.wb_eval_theory.specs.Answers.{IsNodeAt, at_root, at_child, at_made, HasAnswer, by_walk}
use Rattle.wb_eval_theory.specs.Instances.{Path, root, down, Instance, synthesized_at, inherited_at, tree_at, home}
use Rattle.wb_eval_theory.specs.Rules.{rule_of}
use Rattle.wb_eval_theory.specs.Walks.{value, Walk, read, missing, with_tree, walk_expression, finish, walk_top, walk_below, walk_made}
use Rattle.wb_eval_theory.specs.Walks.{rule_at, tree_rule, walk_synthesized, walk_of}
use Rattle.wb_eval.proofs.MachineLemmas.{never_missed, goes_on}
use Rattle.wb_eval.proofs.RunLemmas.{not_entered}
use Rattle.wb_eval_memo.proofs.SitesLemmas.{site_path, root_path}
use Rattle.wb_eval.specs.Inner.Machines.{HasTree, tree_named, tree_value, IsKey, IsMachine, Runs, Wants}
use Rattle.wb_eval_memo.specs.Memos.{count, path_in}
use Rattle.wb_eval_memo.specs.Sites.{step_of}
use Rattle.wb_eval.specs.Inner.Starts.{HasProduction, IsForwarding}
use Rattle.wb_eval.specs.Inner.State.{Passed, at_once}
use Rattle.wb_eval.specs.declared.machine.Key.TheVariants as key
use Rattle.wb_eval.specs.declared.machine.Machine.{Machine}
use Rattle.wb_eval_memo.specs.declared.sites.Origin.{Origin}

-- a rule of a production, or none
rule_cases : (o : Option Expression) → (o ≡ None) ⊎ ((e : Expression) × (o ≡ Some e))
rule_cases None = inl refl
rule_cases (Some e) = inr (e, refl)

-- a tree that isn't absent
pub tree_known : (trees : List (Option TreeId)) (site : ℕ) (x : Option TreeId) → slice_get trees site ≡ Some x → x ≢ None
    → (id : TreeId) × (slice_get trees site ≡ Some (Some id))
tree_known trees site None is some = absurd (some refl)
tree_known trees site (Some id) is some = (id, is)

module _ {a : AttributionParts} {operations : Operations} {trees : List Tree} {under : List Value} {m : Machine} where
  module _ (r : IsMachine a operations trees under m) where
    abbrev s : Setting
    s = setting_of a operations r.top r.asked.nonterminal r.evaluable r.asked.fits

    -- the work begins at the tree of the home
    comes : (u : Tree) (w : Walk) → IsNodeAt a operations r.top (home r.this) u → walk_of operations a r.this u ≡ w
        → Runs a operations trees under m w
    comes u w there is = record {
      machine = r;
      come = record {
        at = u;
        is_node = there;
        passed = subst (Passed a operations r.top m.attribute r.all (walk_of operations a r.this u)) is at_once;
      };
    }

    comes_to_nothing : Runs a operations trees under m missing → ⊥
    comes_to_nothing runs =
        never_missed a operations runs.machine.top m.attribute runs.machine.evaluable runs.machine.asked runs.machine.state runs.come

    pub node_at : (site : ℕ) (id : TreeId) → HasTree m.memo site id → IsNodeAt a operations r.top (path_in m.memo site) (tree_in trees id.0)
    node_at site id has = (r.memo.nodes site id has).is_node

    pub has_production : (site : ℕ) (id : TreeId) → HasTree m.memo site id → HasProduction a trees m site
    has_production site id has =
        let f = node_fits s (node_at site id has) in
        let i = fit_of s (tree_in trees id.0) f.0 f.1 in
        (id, has, (r.memo.nodes site id has).inside, (i.production, i.is))

    -- the origin of a site below another
    pub record IsFrom (site : ℕ) (q : Path) (b : vertices.Step) (o : Origin) : Type 0 where
      pub up : path_in m.memo o.parent ≡ q
      pub way : step_of o.step ≡ b
      pub id : TreeId
      pub has : HasTree m.memo o.parent id
      pub there : o.parent ≤ count m.memo

    pub site_some : (site : ℕ) (q : Path) (b : vertices.Step) → path_in m.memo site ≡ down q b → site ≤ count m.memo
        → (1 ≤ site) × (site - 1 < length m.memo.sites.origins.items)
    site_some zero q b is le = absurd (let h = sym (root_path m.memo.sites.origins.items) ∙ is in cc h)
    site_some (suc i) q b is le = (omega arith, omega (arith, le))

    pub from_origin : (site : ℕ) (q : Path) (b : vertices.Step) (o : Origin) → path_in m.memo site ≡ down q b → site ≤ count m.memo
        → slice_get m.memo.sites.origins.items (site - 1) ≡ Some o → IsFrom site q b o
    from_origin zero q b o is le at = absurd (let h = sym (root_path m.memo.sites.origins.items) ∙ is in cc h)
    from_origin (suc i) q b o is le at =
        let e : suc i - 1 ≡ i = omega arith in
        let here = sym (ap (slice_get m.memo.sites.origins.items) e) ∙ at in
        let path = sym (site_path m.memo.sites i o r.memo.whole.sites here) ∙ is in
        let (id, has) = r.memo.parents i o here in
        let lt = slice_get_within m.memo.trees.items o.parent (Some id) has in
        let len = r.memo.whole.trees in
        record { up = cc path; way = cc path; id = id; has = has; there = omega (arith, lt, len) }

    -- the expression of a rule
    pub rule_expression : (number : ℕ) (p : Production) (v : Vertex) (nodes : List Node) → IsProduction a number p → IsRule p v nodes
        → (e : Expression) × (rule_of p v ≡ Some e) × (nodes ≡ nodes_of e)
    rule_expression number p v nodes is rule =
        let (e, rule_is) = has_rule s number p is v (nodes, rule) in (
          e,
          rule_is,
          one_rule_in a r.evaluable.attribution p (in_list s number p is) v nodes (nodes_of e) rule
              (rule_nodes s number p is v e rule_is),
        )

    no_expression : (number : ℕ) (p : Production) (v : Vertex) → IsProduction a number p → ¬ HasRule p v → rule_of p v ≡ None
    no_expression number p v is none = elim (rule_cases (rule_of p v)) [
      | inl e ↦ e
      | inr (e, some) ↦ absurd (none (nodes_of e, rule_nodes s number p is v e some))
    ]

    -- the tree of a local or forward
    module _ (q : Path) (k : Made) (u : Tree) (p : Production) (this_is : r.this ≡ tree_at q k) (there : IsNodeAt a operations r.top q u)
        (is : IsProduction a (production_of u) p) where
      tree_walk : (o : Option Expression) → rule_of p (tree_of k) ≡ o
          → Runs a operations trees under m (walk_made operations q (children_of u) o)
      unfolding walk_of
      tree_walk o rule =
          comes u (walk_made operations q (children_of u) o)
          (subst (λ (i : Instance). IsNodeAt a operations r.top (home i) u) (sym this_is) there)
          (ap (λ (i : Instance). walk_of operations a i u) this_is
          ∙ ap (walk_made operations q (children_of u)) (ap (λ (z : Option Production). rule_at operations a z (tree_of k)) is ∙ rule))

      pub tree_start : (e : Expression) → rule_of p (tree_of k) ≡ Some e
          → Runs a operations trees under m (walk_expression operations q (children_of u) e (finish operations))
      tree_start e rule = tree_walk (Some e) rule

      pub tree_none : ¬ HasRule p (tree_of k) → ⊥
      tree_none none = comes_to_nothing (tree_walk None (no_expression (production_of u) p (tree_of k) is none))

    -- an inherited attribute
    module _ (q : Path) (b : vertices.Step) (x : ℕ) (u : Tree) (p : Production) (this_is : r.this ≡ inherited_at (down q b) x)
        (there : IsNodeAt a operations r.top q u) (is : IsProduction a (production_of u) p) where
      below_walk : (o : Option Expression) → rule_of p (inherited b x) ≡ o
          → Runs a operations trees under m (walk_below operations q (children_of u) b x o)
      unfolding walk_of
      below_walk o rule =
          comes u (walk_below operations q (children_of u) b x o)
          (subst (λ (i : Instance). IsNodeAt a operations r.top (home i) u) (sym this_is) there)
          (ap (λ (i : Instance). walk_of operations a i u) this_is
          ∙ ap (walk_below operations q (children_of u) b x)
          (ap (λ (z : Option Production). rule_at operations a z (inherited b x)) is ∙ rule))

      pub below_start : (e : Expression) → rule_of p (inherited b x) ≡ Some e
          → Runs a operations trees under m (walk_expression operations q (children_of u) e (finish operations))
      below_start e rule = below_walk (Some e) rule

      pub below_none : ¬ HasRule p (inherited b x) → Runs a operations trees under m (read (inherited_at q x) (finish operations))
      below_none none = by_step b (below_walk None (no_expression (production_of u) p (inherited b x) is none)) where
        by_step : (b : vertices.Step) → Runs a operations trees under m (walk_below operations q (children_of u) b x None)
            → Runs a operations trees under m (read (inherited_at q x) (finish operations))
        by_step (made forward) runs = runs
        by_step (made (local c)) runs = absurd (comes_to_nothing runs)
        by_step (child c) runs = absurd (comes_to_nothing runs)

    -- a synthesized attribute of a site with a tree
    at_tree : (q : Path) (u : Tree) (x : ℕ) → r.this ≡ synthesized_at q x → IsNodeAt a operations r.top q u
        → ((p : Path) (k : Made) → q ≡ down p (made k) → Contains r.all (tree_at p k))
        → Runs a operations trees under m (walk_synthesized operations a q x u)
    unfolding walk_of comes
    at_tree root u x this_is at_root entered =
        comes u _ (subst (λ (i : Instance). IsNodeAt a operations r.top (home i) u) (sym this_is) at_root)
        (ap (λ (i : Instance). walk_of operations a i u) this_is)
    at_tree (down q (child k)) u x this_is (at_child {t = above} n e) entered =
        comes above _ (subst (λ (i : Instance). IsNodeAt a operations r.top (home i) above) (sym this_is) n)
        (ap (λ (i : Instance). walk_of operations a i above) this_is
        ∙ ap (λ (o : Option t.Value). with_tree o (walk_synthesized operations a (down q (child k)) x)) e)
    at_tree (down q (made k)) u x this_is (at_made has) entered = by_answer has where
      by_answer : HasAnswer a operations r.top (tree_at q k) (value (tree u))
          → Runs a operations trees under m (walk_synthesized operations a (down q (made k)) x u)
      by_answer (by_walk {t = above} n d) =
          let runs = comes above _ (subst (λ (i : Instance). IsNodeAt a operations r.top (home i) above) (sym this_is) n)
          (ap (λ (i : Instance). walk_of operations a i above) this_is) in
          record { machine = r; come = goes_on a operations r.top m.attribute runs.come (entered q k refl) has }

    module _ (site x : ℕ) (id : TreeId) (this_is : r.this ≡ synthesized_at (path_in m.memo site) x) (has : HasTree m.memo site id)
        (p : Production) (is : IsProduction a (production_of (tree_in trees id.0)) p) where
      top_walk : (o f : Option Expression) → rule_of p (top_synthesized x) ≡ o → rule_of p (tree_of forward) ≡ f
          → Runs a operations trees under m (walk_top operations (path_in m.memo site) (children_of (tree_in trees id.0)) x o f)
      top_walk o f rule forwards =
          let runs =
          at_tree (path_in m.memo site) (tree_in trees id.0) x this_is (node_at site id has)
          (λ q k e. r.memo.made_trees site id q k has e) in
          let first = ap (λ (z : Option Production). rule_at operations a z (top_synthesized x)) is ∙ rule in
          let second = ap (λ (z : Option Production). rule_at operations a z (tree_of forward)) is ∙ forwards in
          subst (λ (z : Option Expression). Runs a operations trees under m
          (walk_top operations (path_in m.memo site) (children_of (tree_in trees id.0)) x o z)) second
          (subst (λ (z : Option Expression). Runs a operations trees under m
          (walk_top operations (path_in m.memo site) (children_of (tree_in trees id.0)) x z
          (tree_rule operations a (tree_in trees id.0) (tree_of forward)))) first runs)

      pub top_start : (e : Expression) → rule_of p (top_synthesized x) ≡ Some e
          → Runs a operations trees under m (walk_expression operations (path_in m.memo site) (children_of (tree_in trees id.0)) e
          (finish operations))
      top_start e rule = top_walk (Some e) (rule_of p (tree_of forward)) rule refl

      pub top_forward : site ≤ count m.memo → ¬ HasRule p (top_synthesized x) → IsForwarding a operations trees under m site x
      top_forward le none =
          let rule = no_expression (production_of (tree_in trees id.0)) p (top_synthesized x) is none in
          elim (rule_cases (rule_of p (tree_of forward))) [
            | inl e ↦ absurd (comes_to_nothing (top_walk None None rule e))
            | inr (e, some) ↦ record { id = id; has = has; there = le; runs = top_walk None (Some e) rule some }
          ]

    -- the root has a tree
    root_none : (j : ℕ) → slice_get m.memo.trees.items j ≡ Some None → path_in m.memo j ≡ root → j ≤ count m.memo → ⊥
    root_none zero none is le = let (id, has) = r.memo.root_tree in let h = sym none ∙ has in cc h
    root_none (suc j) none is le =
        let (o, at) = at_within m.memo.sites.origins.items j (omega (arith, le)) in
        let h = sym (site_path m.memo.sites j o r.memo.whole.sites at) ∙ is in cc h

    -- the tree of a site is read first
    first_walk : (q : Path) (k : Made) (x : ℕ) (u : Tree) → r.this ≡ synthesized_at (down q (made k)) x → IsNodeAt a operations r.top q u
        → (rest : t.Value → Walk) × Runs a operations trees under m (read (tree_at q k) rest)
    unfolding walk_of
    first_walk q k x u this_is n = (
      _,
      comes u _ (subst (λ (i : Instance). IsNodeAt a operations r.top (home i) u) (sym this_is) n)
          (ap (λ (i : Instance). walk_of operations a i u) this_is),
    )

    pub tree_wanted : (site x : ℕ) → site ≤ count m.memo → r.this ≡ synthesized_at (path_in m.memo site) x
        → slice_get m.memo.trees.items site ≡ Some None → Wants a operations trees under m (key.Tree site)
    tree_wanted site x le this_is none = by_path (path_in m.memo site) refl where
      by_path : (z : Path) → path_in m.memo site ≡ z → Wants a operations trees under m (key.Tree site)
      by_path root is = absurd (root_none site none is le)
      by_path (down q (child k)) is = absurd (let (id, has) = r.memo.child_trees site q k le is in let h = sym none ∙ has in cc h)
      by_path (down q (made k)) is =
          let (some, lt) = site_some site q (made k) is le in
          let (o, at) = at_within m.memo.sites.origins.items (site - 1) lt in
          let f = from_origin site q (made k) o is le at in
          let n = subst (λ (z : Path). IsNodeAt a operations r.top z (tree_in trees f.id.0)) f.up (node_at o.parent f.id f.has) in
          let (rest, runs) = first_walk q k x (tree_in trees f.id.0) (this_is ∙ ap (λ (z : Path). synthesized_at z x) is) n in
          let runs' = subst (λ (i : Instance). Runs a operations trees under m (read i rest)) (sym (ap tree_named is)) runs in
          let is_key : IsKey m.memo (key.Tree site) = (le, (q, k, is)) in
          record {
            next = rest;
            runs = runs';
            is_key = is_key;
            fresh = not_entered a operations trees m (key.Tree site) rest runs' is_key (ap tree_value none);
          }

    -- an inherited attribute is one of a site below another
    pub inherited_down : (site x : ℕ) → r.this ≡ inherited_at (path_in m.memo site) x
        → (q : Path) × (b : vertices.Step) × (path_in m.memo site ≡ down q b)
    unfolding walk_of
    inherited_down site x this_is = by_path (path_in m.memo site) refl where
      by_path : (z : Path) → path_in m.memo site ≡ z → (q : Path) × (b : vertices.Step) × (path_in m.memo site ≡ down q b)
      by_path (down q b) is = (q, b, is)
      by_path root is =
          let this_root = this_is ∙ ap (λ (z : Path). inherited_at z x) is in
          absurd (comes_to_nothing (comes r.top missing (subst (λ (i : Instance). IsNodeAt a operations r.top (home i) r.top)
          (sym this_root) at_root)
          (ap (λ (i : Instance). walk_of operations a i r.top) this_root)))
