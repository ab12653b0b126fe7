-- Whatever is needed has a home, and a definition.
use Rattle.std.proofs.Common.{◌≡◌, ◌∙◌, ◌⊎◌, inl, inr, ℕ, List, Option, Some, None, refl, sym, subst, ap, slice_get, arith}
use Rattle.std.proofs.lemmas.Option.{same_Some, slice_get-map}
use Rattle.std.specs.Prelude.{option_map}
use Rattle.wb_flow_theory.specs.Flow.{IsVertex, by_rule, by_flow_type, by_copy_up, Leads, one, more}
use Rattle.wb_flow_theory.specs.Occurrences.{Occurs, Needs}
use Rattle.wb_flow_theory.specs.Rules.{Forwards, IsBelow, IsRule, HasRule, node_read, place_read, Reads}
use Rattle.wb_flow_theory.specs.Rules as rules
use Rattle.wb_flow_theory.specs.Vertices.{Made, local, forward, Step, child, made, Vertex, top_synthesized, top_inherited, synthesized}
use Rattle.wb_flow_theory.specs.Vertices.{inherited, tree_of}
use Rattle.wb_base.specs.declared.symbol.Kind.TheVariants as kd
use Rattle.wb_syntax_expressions.specs.declared.node.Node.TheVariants as n
use Rattle.wb_syntax_resolved.specs.declared.attributes.Direction.TheVariants.{Synthesized}
use Rattle.wb_syntax_resolved.specs.declared.equation.Place.TheVariants as place
use Rattle.wb_syntax_resolved.specs.declared.production.Child.{Child}
use Rattle.wb_syntax_resolved.specs.declared.production.ChildKind.TheVariants as child_kind
use Rattle.wb_syntax_resolved.specs.declared.production.Local.{Local}
use Rattle.wb_syntax_resolved.specs.declared.production.Production.{Production}
use Rattle.wb_syntax_resolved.specs.Expression.{Expression, Node}
use Rattle.wb_syntax_resolved.specs.Numbered.{value_kind}
use Rattle.wb_values.specs.Tree.{int, bool, text, Tree, Value, plain, tree, Values, production_of, children_of, value_at}
use Rattle.wb_eval_theory.proofs.AnswerLemmas.{one_node}
use Rattle.wb_eval_theory.proofs.CycleLemmas.{Nest, level, inside, run, there_needed, is_moved, walk_in}
use Rattle.wb_eval_theory.proofs.ExpressionLemmas.{IsIn}
use Rattle.wb_eval_theory.proofs.KindLemmas.{fit_of, Fits, node_fits}
use Rattle.wb_eval_theory.proofs.ProductionLemmas.{expression_at, IsExpression, has_rule, forward_rule, well_defined, not_some}
use Rattle.wb_eval_theory.proofs.ReadLemmas.{place_of, vertex_at, home_vertex, IsThere, Moves, nil, EdgeAt, Takes, kid_takes, made_takes}
use Rattle.wb_eval_theory.proofs.ReadLemmas.{root_takes, goes_from, below_fits}
use Rattle.wb_eval_theory.proofs.Settings.{Setting, NodeAt, Answers, ComesTo, Needing, ValueFits, AllFit, IsOf, Edge}
use Rattle.wb_eval_theory.proofs.SoundLemmas.{Goes, goes_read, goes_done, Inside, at_read, at_fault, kinds_of, fits_child}
use Rattle.wb_eval_theory.proofs.SoundLemmas.{tree_value, IsMade, Sound, through}
use Rattle.wb_eval_theory.specs.Answers.{at_root, at_child, at_made}
use Rattle.wb_eval_theory.specs.Evaluable.{IsAsked}
use Rattle.wb_eval_theory.specs.Instances.{Path, root, down, Instance, synthesized_at, inherited_at, tree_at, home}
use Rattle.wb_eval_theory.specs.Rules.{rule_of}
use Rattle.wb_eval_theory.specs.Walks.{value, missing, with_tree, walk_expression, finish, walk_top, walk_below}
use Rattle.wb_eval_theory.specs.Walks.{walk_made, rule_at, walk_synthesized, walk_of}

-- no expression reads an inherited attribute one step down
no_inherited : (part : Node) (b : Step) (i : ℕ) → node_read part ≡ Some (inherited b i) → ⊥
no_inherited (n.Label (place.Child c)) b i is = cc is
no_inherited (n.Label (place.Local c)) b i is = cc is
no_inherited node b i is = cc is

module _ (s : Setting) (p : Production) where
  -- what leads to an inherited attribute one step down is a synthesized one there, which needs it
  record IsNeeding (v : Vertex) (b : Step) (i : ℕ) : Type 0 where
    attribute : ℕ
    nonterminal : ℕ
    is : v ≡ synthesized b attribute
    below : IsBelow p b nonterminal
    needs : Needs s.attribution attribute nonterminal i

  into_inherited : {v : Vertex} {b : Step} {i : ℕ} → Edge s p v (inherited b i) → IsNeeding v b i
  into_inherited {b = b} {i = i} (by_rule rule (part, listed, reads)) = absurd (no_inherited part b i reads)
  into_inherited (by_flow_type {x = y} {m = m} below occurs needs) =
      record { attribute = y; nonterminal = m; is = refl; below = below; needs = needs }

  -- what leads to a synthesized attribute one step down is an expression that reads it, or that step is to the forwarded tree
  into_synthesized : {v : Vertex} {b : Step} {y : ℕ} → Edge s p v (synthesized b y)
      → ((nodes : List Node) × IsRule p v nodes × Reads nodes (synthesized b y)) ⊎ (b ≡ made forward)
  into_synthesized (by_rule {nodes = nodes} rule reads) = inl (nodes, rule, reads)
  into_synthesized (by_copy_up occurs none some) = inr refl

  last : {v w : Vertex} → Leads (Edge s p) v w → (x : Vertex) × Edge s p x w
  last (one {v = v} e) = (v, e)
  last (more {w = x} m e) = (x, e)

module _ (s : Setting) (number : ℕ) (p : Production) (is : IsOf s number p) where
  defined_below : {y : ℕ} {b : Step} {i : ℕ} → Leads (Edge s p) (top_synthesized y) (inherited b i)
      → HasRule p (inherited b i) ⊎ (b ≡ made forward)
  defined_below (one e) = let h = (into_inherited s p e).is in absurd (cc h)
  defined_below {y} {b} {i} (more w e) =
      let needing = into_inherited s p e in
      let w' = subst (λ (v : Vertex). Leads (Edge s p) (top_synthesized y) v) needing.is w in
      let l = last s p w' in
      elim (into_synthesized s p l.1) [
        | inl z ↦ (well_defined s number p is).below b i (record {
          vertex = l.0;
          nodes = z.0;
          attribute = needing.attribute;
          nonterminal = needing.nonterminal;
          rule = z.1;
          reads = z.2;
          below = needing.below;
          needs = needing.needs;
        })
        | inr h ↦ inr h
      ]

  local_rule : (c m : ℕ) → IsBelow p (made (local c)) m → HasRule p (tree_of (local c))
  local_rule c m below = by_local (slice_get p.locals c) refl below where
    by_local : (o : Option Local) → slice_get p.locals c ≡ o
        → option_map (λ (l : Local). child_kind.Value (kd.Tree l.nonterminal)) o ≡ Some (child_kind.Value (kd.Tree m))
        → HasRule p (tree_of (local c))
    by_local None at h = absurd (cc h)
    by_local (Some l) at h = (l.nodes, rules.by_local c l at refl refl)

  made_rule : (m : Made) (k : ℕ) → IsBelow p (made m) k → (e : Expression) × (rule_of p (tree_of m) ≡ Some e)
  made_rule (local c) k below = has_rule s number p is (tree_of (local c)) (local_rule c k below)
  made_rule forward k below = forward_rule s number p is below.0

  not_none : (v : Vertex) → HasRule p v → rule_of p v ≡ None → ⊥
  not_none v has none = let (e, some) = has_rule s number p is v has in not_some (rule_of p v) e none some

module _ (s : Setting) (q : Path) (t : Tree) (p : Production) (there : NodeAt s q t) (is : IsOf s (production_of t) p) (vs : Values)
    (fits : AllFit s vs (kinds_of p)) where
  never_expression : (v : Vertex) (e : Expression) → rule_of p v ≡ Some e
      → Goes (Sound s) (walk_expression s.operations q vs e (finish s.operations)) missing → ⊥
  never_expression v e rule w =
      let i = expression_at s (production_of t) p is v e rule in
      by_case i (through s q t p there is vs fits e i.kind (finish s.operations) missing i.has_kind i.named w) where
        by_case : (i : IsExpression s p v e)
            → (Inside (IsIn e) q missing ⊎ ((u : Value) × ValueFits s u i.kind × Goes (Sound s) (finish s.operations u) missing)) → ⊥
        by_case i (inl (at_read part to next has reads h)) = cc h
        by_case i (inl (at_fault operation code h)) = cc h
        by_case i (inr z) = let h = goes_done z.2 in cc h

  never_top : (y : ℕ) (o f : Option Expression) → Occurs s.attribution Synthesized y p.left → rule_of p (top_synthesized y) ≡ o
      → rule_of p (tree_of forward) ≡ f → Goes (Sound s) (walk_top s.operations q vs y o f) missing → ⊥
  never_top y (Some e) f occurs rule forwards w = never_expression (top_synthesized y) e rule w
  never_top y None (Some e) occurs rule forwards w = elim (goes_read w) [
    | inl h ↦ absurd (cc h)
    | inr z ↦ elim (goes_read z.2) [ inl h ↦ absurd (cc h) | inr u ↦ let h = goes_done u.2 in absurd (cc h) ]
  ]
  never_top y None None occurs rule forwards w = elim ((well_defined s (production_of t) p is).top y occurs) [
    | inl has ↦ not_none s (production_of t) p is (top_synthesized y) has rule
    | inr some ↦ let (e, at) = forward_rule s (production_of t) p is some in not_some (rule_of p (tree_of forward)) e forwards at
  ]

  never_below : (b : Step) (i : ℕ) (o : Option Expression) → rule_of p (inherited b i) ≡ o
      → (HasRule p (inherited b i) ⊎ (b ≡ made forward)) → Goes (Sound s) (walk_below s.operations q vs b i o) missing → ⊥
  never_below b i (Some e) rule known w = never_expression (inherited b i) e rule w
  never_below (made forward) i None rule known w = elim (goes_read w) [ inl h ↦ absurd (cc h) | inr u ↦ let h = goes_done u.2 in absurd (cc h) ]
  never_below (made (local c)) i None rule known w =
      elim known [ inl has ↦ not_none s (production_of t) p is (inherited (made (local c)) i) has rule | inr h ↦ absurd (cc h) ]
  never_below (child c) i None rule known w =
      elim known [ inl has ↦ not_none s (production_of t) p is (inherited (child c) i) has rule | inr h ↦ absurd (cc h) ]

  never_made : (m : Made) (k : ℕ) (o : Option Expression) → IsBelow p (made m) k → rule_of p (tree_of m) ≡ o
      → Goes (Sound s) (walk_made s.operations q vs o) missing → ⊥
  never_made m k (Some e) below rule w = never_expression (tree_of m) e rule w
  never_made m k None below rule w =
      let (e, at) = made_rule s (production_of t) p is m k below in not_some (rule_of p (tree_of m)) e rule at

module _ (s : Setting) where
  never_synthesized : (q : Path) (y : ℕ) (u : Tree) → NodeAt s q u → Takes s u y
      → Goes (Sound s) (walk_synthesized s.operations s.attribution q y u) missing → ⊥
  never_synthesized q y u there f w =
      let i = fit_of s u f.0 f.1 in
      let rule = ap (λ (o : Option Production). rule_at s.operations s.attribution o (top_synthesized y)) i.is in
      let forwards = ap (λ (o : Option Production). rule_at s.operations s.attribution o (tree_of forward)) i.is in
      let occurs = subst (Occurs s.attribution Synthesized y) (sym i.left) f.2 in
      never_top s q u i.production there i.is (children_of u) i.below y _ _ occurs (sym rule) (sym forwards) w

  -- what must be known where an instance is inherited
  abbrev pub IsKnown : Instance → Production → Type 0
  IsKnown (synthesized_at q y) p = Unit {0}
  IsKnown (inherited_at root i) p = ⊥
  IsKnown (inherited_at (down q b) i) p = HasRule p (inherited b i) ⊎ (b ≡ made forward)
  IsKnown (tree_at q m) p = Unit {0}

  child_kind_at : (p : Production) (c m : ℕ) → IsBelow p (child c) m → slice_get (kinds_of p) c ≡ Some (kd.Tree m)
  child_kind_at p c m below = slice_get-map (λ (z : Child). value_kind z.kind) p.children c ∙ by_child (slice_get p.children c) below where
    by_child : (o : Option Child) → option_map (λ (z : Child). z.kind) o ≡ Some (child_kind.Value (kd.Tree m))
        → option_map (λ (z : Child). value_kind z.kind) o ≡ Some (kd.Tree m)
    by_child None none = absurd (cc none)
    by_child (Some z) some = ap Some (ap value_kind (same_Some z.kind (child_kind.Value (kd.Tree m)) some))

  pub kid_is_tree : (c y : ℕ) (t : Tree) (p : Production) → IsOf s (production_of t) p → Fits s t
      → IsVertex s.attribution p (synthesized (child c) y) → (u : Tree) × (value_at (children_of t) c ≡ Some (tree u))
  kid_is_tree c y t p is f (m, below, occurs) =
      let v = fits_child s (children_of t) (kinds_of p) c (kd.Tree m) (below_fits s t p is f) (child_kind_at p c m below) in
      let u = tree_value s v.0 m v.2 in
      (u.0, v.1 ∙ ap Some u.1)

  never : (i : Instance) (t : Tree) (p : Production) → NodeAt s (home i) t → IsOf s (production_of t) p
      → IsVertex s.attribution p (home_vertex i) → Fits s t → IsKnown i p → Goes (Sound s) (walk_of s.operations s.attribution i t) missing → ⊥
  unfolding walk_of
  never (synthesized_at root y) t p there is vertex f known w = never_synthesized root y t there (root_takes s y t p is f vertex) w
  never (synthesized_at (down q (child c)) y) t p there is vertex f known w =
      let u = kid_is_tree c y t p is f vertex in
      never_synthesized (down q (child c)) y u.0 (at_child there u.1) (kid_takes s c y t u.0 p is f vertex u.1)
      (subst (λ (o : Option Value). Goes (Sound s) (with_tree o (walk_synthesized s.operations s.attribution (down q (child c)) y)) missing) u.1 w)
  never (synthesized_at (down q (made m)) y) t p there is vertex f known w =
      elim (goes_read w) [ inl h ↦ absurd (cc h) | inr z ↦ at_tree z.0 z.1.0 z.1.1 z.2 ] where
        at_tree : (v : Value) → Answers s (tree_at q m) (value v) → IsMade s q m v
            → Goes (Sound s) (with_tree (Some v) (walk_synthesized s.operations s.attribution (down q (made m)) y)) missing → ⊥
        at_tree (tree u) has k w =
            never_synthesized (down q (made m)) y u (at_made has) (made_takes s q m y t u p there is vertex k) w
        at_tree (plain (int z)) has k w = let e = k.fits in absurd (cc e)
        at_tree (plain (bool b)) has k w = let e = k.fits in absurd (cc e)
        at_tree (plain (text x)) has k w = let e = k.fits in absurd (cc e)
  never (inherited_at root i) t p there is vertex f known w = known
  never (inherited_at (down q b) i) t p there is vertex f known w =
      let rule = ap (λ (o : Option Production). rule_at s.operations s.attribution o (inherited b i)) is in
      never_below s q t p there is (children_of t) (below_fits s t p is f) b i _ (sym rule) known w
  never (tree_at q m) t p there is (k, below) f known w =
      let rule = ap (λ (o : Option Production). rule_at s.operations s.attribution o (tree_of m)) is in
      never_made s q t p there is (children_of t) (below_fits s t p is f) m k _ below (sym rule) w

  module _ (y : ℕ) (asked : IsAsked s.attribution s.top y) where
    pub asked_there : IsThere s (synthesized_at root y)
    asked_there =
        let i = fit_of s s.top asked.nonterminal asked.fits in
        record {
          above = s.top;
          production = i.production;
          there = at_root;
          is = i.is;
          vertex = subst (Occurs s.attribution Synthesized y) (sym i.left) asked.occurs;
        }

    nest_of : {i : Instance} → Needing s (synthesized_at root y) i → Nest s root (top_synthesized y) (place_of i) (vertex_at i)
    nest_of needs = elim (run s asked_there (level nil) needs) [ inl nest ↦ nest | inr z ↦ absurd (omega (arith, z.1)) ]

    from_top : {q : Path} {z : ℕ} {b : Step} {i : ℕ} → Moves (EdgeAt s q) (top_synthesized z) (inherited b i)
        → Leads (EdgeAt s q) (top_synthesized z) (inherited b i)
    from_top w = elim (is_moved s w) [ inl h ↦ absurd (cc h) | inr k ↦ k ]

    below_known : {q : Path} {b : Step} {i : ℕ} (t : Tree) (p : Production) → NodeAt s q t → IsOf s (production_of t) p
        → Nest s root (top_synthesized y) q (inherited b i) → HasRule p (inherited b i) ⊎ (b ≡ made forward)
    below_known t p there is (level w) = defined_below s (production_of t) p is (walk_in s t p there is (from_top w))
    below_known t p there is (inside k f w) = defined_below s (production_of t) p is (walk_in s t p there is (from_top w))

    -- no inherited attribute of the root is reached
    none_at_root : {i : ℕ} → Nest s root (top_synthesized y) root (top_inherited i) → ⊥
    none_at_root {i} (level w) =
        let f = fit_of s s.top asked.nonterminal asked.fits in
        let occurs = subst (Occurs s.attribution Synthesized y) (sym f.left) asked.occurs in
        elim (is_moved s w) [
          | inl h ↦ absurd (cc h)
          | inr k ↦
              let needs = (well_defined s (production_of s.top) f.production f.is).flow_types y i occurs
              (walk_in s s.top f.production at_root f.is k) in
              asked.needs_nothing i (subst (λ (z : ℕ). Needs s.attribution y z i) f.left needs)
        ]

    known : (i : Instance) (t : Tree) (p : Production) → NodeAt s (home i) t → IsOf s (production_of t) p
        → Nest s root (top_synthesized y) (place_of i) (vertex_at i) → IsKnown i p
    known (synthesized_at q z) t p there is nest = tt
    known (inherited_at root i) t p there is nest = none_at_root nest
    known (inherited_at (down q b) i) t p there is nest = below_known t p there is nest
    known (tree_at q m) t p there is nest = tt

    pub needed_there : {i : Instance} → Needing s (synthesized_at root y) i → IsThere s i
    needed_there needs = there_needed s asked_there needs

    -- no walk that is needed comes to nothing
    pub never_missing : {i : Instance} → Needing s (synthesized_at root y) i → (t : Tree) → NodeAt s (home i) t
        → ComesTo s (walk_of s.operations s.attribution i t) missing → ⊥
    never_missing {i} needs t there c =
        let f = needed_there needs in
        let same : f.above ≡ t = one_node s.attribution s.operations s.top f.there there in
        let is = subst (λ (x : Tree). IsOf s (production_of x) f.production) same f.is in
        never i t f.production there is f.vertex (node_fits s there) (known i t f.production there is (nest_of needs)) (goes_from s c)

    -- what is needed is known where it is inherited
    pub needed_known : {i : Instance} → Needing s (synthesized_at root y) i → (f : IsThere s i) → IsKnown i f.production
    needed_known {i} needs f = known i f.above f.production f.there f.is (nest_of needs)
