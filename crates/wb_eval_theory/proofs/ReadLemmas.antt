-- What an instance reads is reached by edges of the flow graph of one production, or is the tree that makes its node.
use Rattle.std.proofs.Common.{◌≡◌, ◌∙◌, ◌⊎◌, inl, inr, ℕ, Option, Some, None, refl, sym, subst, ap, slice_get}
use Rattle.std.proofs.lemmas.Option.{same_Some, slice_get-map}
use Rattle.std.specs.Prelude.{option_map, is_some, true}
use Rattle.wb_flow_theory.specs.Flow.{IsVertex, by_rule, by_tree, by_copy_up, by_copy_down, Leads, one, more}
use Rattle.wb_flow_theory.specs.Occurrences.{Occurs}
use Rattle.wb_flow_theory.specs.Rules.{Forwards, IsBelow}
use Rattle.wb_flow_theory.specs.Vertices.{Made, local, forward, Step, child, made, Vertex, top_synthesized, top_inherited, synthesized}
use Rattle.wb_flow_theory.specs.Vertices.{inherited, tree_of}
use Rattle.wb_base.specs.declared.symbol.Kind.{Kind}
use Rattle.wb_base.specs.declared.symbol.Kind.TheVariants as kd
use Rattle.wb_syntax_resolved.specs.declared.attributes.Direction.TheVariants.{Synthesized, Inherited}
use Rattle.wb_syntax_resolved.specs.declared.production.Child.{Child}
use Rattle.wb_syntax_resolved.specs.declared.production.ChildKind.TheVariants as child_kind
use Rattle.wb_syntax_resolved.specs.declared.production.Forward.{Forward}
use Rattle.wb_syntax_resolved.specs.declared.production.Production.{Production}
use Rattle.wb_syntax_resolved.specs.Expression.{Expression}
use Rattle.wb_syntax_resolved.specs.Numbered.{value_kind}
use Rattle.wb_values.specs.Tree.{Tree, Value, plain, tree, Values, production_of, children_of, value_at}
use Rattle.wb_eval_theory.proofs.AnswerLemmas.{one_node}
use Rattle.wb_eval_theory.proofs.ExpressionLemmas.{IsIn, reads_of}
use Rattle.wb_eval_theory.proofs.KindLemmas.{IsFit, fit_of, Fits, node_fits, kinded}
use Rattle.wb_eval_theory.proofs.ProductionLemmas.{one_below, expression_at, IsExpression, no_rule, edge_end}
use Rattle.wb_eval_theory.proofs.Settings.{Setting, NodeAt, Answers, ComesTo, Reading, TreeFits, ValueFits, AllFit, IsOf, Edge}
use Rattle.wb_eval_theory.proofs.SoundLemmas.{Goes, stay, go, goes_read, goes_done, goes_missing, Inside, at_read, at_fault, kinds_of}
use Rattle.wb_eval_theory.proofs.SoundLemmas.{fits_at}
use Rattle.wb_eval_theory.proofs.SoundLemmas.{IsMade, Sound, through}
use Rattle.wb_eval_theory.specs.Answers.{at_child, at_made}
use Rattle.wb_eval_theory.specs.Instances.{Path, root, down, Instance, synthesized_at, inherited_at, tree_at, instance_of, home}
use Rattle.wb_eval_theory.specs.Needed.{here, after}
use Rattle.wb_eval_theory.specs.Rules.{rule_of, forward_expression}
use Rattle.wb_eval_theory.specs.Walks.{value, Walk, read, with_tree, walk_expression, finish, walk_top, walk_below}
use Rattle.wb_eval_theory.specs.Walks.{walk_made, rule_at, walk_synthesized, walk_of}

-- the node at which an instance is an attribute or a tree of the production there, and the vertex that it is
abbrev pub place_of : Instance → Path
place_of (synthesized_at q y) = q
place_of (inherited_at root i) = root
place_of (inherited_at (down q b) i) = q
place_of (tree_at q m) = q

abbrev pub vertex_at : Instance → Vertex
vertex_at (synthesized_at q y) = top_synthesized y
vertex_at (inherited_at root i) = top_inherited i
vertex_at (inherited_at (down q b) i) = inherited b i
vertex_at (tree_at q m) = tree_of m

-- the vertex that it is at its home
abbrev pub home_vertex : Instance → Vertex
home_vertex (synthesized_at root y) = top_synthesized y
home_vertex (synthesized_at (down q b) y) = synthesized b y
home_vertex (inherited_at root i) = top_inherited i
home_vertex (inherited_at (down q b) i) = inherited b i
home_vertex (tree_at q m) = tree_of m

-- a walk of any number of edges
pub data Moves {V : Type 0} (E : V → V → Type 0) : V → V → Type 0 where
  nil : {v : V} → Moves E v v
  snoc : {v w x : V} → Moves E v w → E w x → Moves E v x

pub append : {V : Type 0} {E : V → V → Type 0} {v w x : V} → Moves E v w → Leads E w x → Moves E v x
append s (one e) = snoc s e
append s (more r e) = snoc (append s r) e

pub append_some : {V : Type 0} {E : V → V → Type 0} {v w x : V} → Leads E v w → Moves E w x → Leads E v x
append_some s nil = s
append_some s (snoc r e) = more (append_some s r) e

-- an instance whose home is there, and has it as a vertex
pub record IsThere (s : Setting) (i : Instance) : Type 0 where
  pub above : Tree
  pub production : Production
  pub there : NodeAt s (home i) above
  pub is : IsOf s (production_of above) production
  pub vertex : IsVertex s.attribution production (home_vertex i)

-- an edge of the graph of the production at a path
pub record EdgeAt (s : Setting) (q : Path) (v w : Vertex) : Type 0 where
  pub above : Tree
  pub production : Production
  pub there : NodeAt s q above
  pub is : IsOf s (production_of above) production
  pub edge : Edge s production v w

pub data Move (s : Setting) (i r : Instance) : Type 0 where
  along : (v : Vertex) (t : Tree) (p : Production) → NodeAt s (place_of i) t → IsOf s (production_of t) p
      → IsVertex s.attribution p v → Leads (EdgeAt s (place_of i)) (vertex_at i) v → r ≡ instance_of (place_of i) v → Move s i r
  to_tree : (q : Path) (m : Made) (y : ℕ) (t : Tree) (p : Production) → NodeAt s q t → IsOf s (production_of t) p
      → i ≡ synthesized_at (down q (made m)) y → r ≡ tree_at q m → Move s i r

pub goes_from : (s : Setting) {w v : Walk} → ComesTo s w v → Goes (Sound s) w v
goes_from s here = stay
goes_from s (after has c) = go (has, kinded s has) (goes_from s c)

-- where the forward has an expression, the production forwards
pub forwards_of : (p : Production) (e : Expression) → rule_of p (tree_of forward) ≡ Some e → Forwards p
unfolding rule_of
forwards_of p e rule = by_case p.forward refl rule where
  by_case : (f : Option Forward) → p.forward ≡ f → forward_expression f ≡ Some e → is_some p.forward ≡ true
  by_case None at h = absurd (cc h)
  by_case (Some f) at h = ap is_some at

module _ (s : Setting) (q : Path) (t : Tree) (p : Production) (there : NodeAt s q t) (is : IsOf s (production_of t) p) (vs : Values)
    (fits : AllFit s vs (kinds_of p)) (r : Instance) (rest : Value → Walk) where
  -- the read is a walk from v
  pub record ReadFrom (v : Vertex) : Type 0 where
    pub to : Vertex
    pub vertex : IsVertex s.attribution p to
    pub walk : Leads (EdgeAt s q) v to
    pub reads : r ≡ instance_of q to

  edge_here : {v w : Vertex} → Edge s p v w → EdgeAt s q v w
  edge_here e = record { above = t; production = p; there = there; is = is; edge = e }

  edge_vertex : {v w : Vertex} → Edge s p v w → IsVertex s.attribution p w
  edge_vertex {v} {w} e = edge_end s (production_of t) p is v w e

  reads_expression : (v : Vertex) (e : Expression) → rule_of p v ≡ Some e
      → Goes (Sound s) (walk_expression s.operations q vs e (finish s.operations)) (read r rest) → ReadFrom v
  reads_expression v e rule w =
      let i = expression_at s (production_of t) p is v e rule in
      by_case i (through s q t p there is vs fits e i.kind (finish s.operations) (read r rest) i.has_kind i.named w) where
        by_case : (i : IsExpression s p v e) → (Inside (IsIn e) q (read r rest) ⊎ ((u : Value) × ValueFits s u i.kind × Goes (Sound s) (finish s.operations u) (read r rest)))
            → ReadFrom v
        by_case i (inl (at_read part to next has reads h)) =
            let edge : Edge s p v to = by_rule i.rule (reads_of e to (part, has, reads)) in
            record { to = to; vertex = edge_vertex edge; walk = one (edge_here edge); reads = cc h }
        by_case i (inl (at_fault operation code h)) = absurd (cc h)
        by_case i (inr z) = let h = goes_done z.2 in absurd (cc h)

  reads_top : (y : ℕ) (o f : Option Expression) → Occurs s.attribution Synthesized y p.left → rule_of p (top_synthesized y) ≡ o
      → rule_of p (tree_of forward) ≡ f → Goes (Sound s) (walk_top s.operations q vs y o f) (read r rest) → ReadFrom (top_synthesized y)
  reads_top y (Some e) f occurs rule forwards w = reads_expression (top_synthesized y) e rule w
  reads_top y None (Some e) occurs rule forwards w =
      let some = forwards_of p e forwards in
      let edge : Edge s p (top_synthesized y) (synthesized (made forward) y) =
      by_copy_up occurs (no_rule s (production_of t) p is (top_synthesized y) rule) some in
      let tree_edge : Edge s p (synthesized (made forward) y) (tree_of forward) = by_tree (some, refl) occurs in
      elim (goes_read w) [
        | inl h ↦ record { to = tree_of forward; vertex = edge_vertex tree_edge; walk = more (one (edge_here edge)) (edge_here tree_edge); reads = cc h }
        | inr z ↦ elim (goes_read z.2) [
          | inl h ↦ record { to = synthesized (made forward) y; vertex = edge_vertex edge; walk = one (edge_here edge); reads = cc h }
          | inr u ↦ let h = goes_done u.2 in absurd (cc h)
        ]
      ]
  reads_top y None None occurs rule forwards w = let h = goes_missing w in absurd (cc h)

  reads_below : (b : Step) (i : ℕ) (o : Option Expression) → IsVertex s.attribution p (inherited b i) → rule_of p (inherited b i) ≡ o
      → Goes (Sound s) (walk_below s.operations q vs b i o) (read r rest) → ReadFrom (inherited b i)
  reads_below b i (Some e) vertex rule w = reads_expression (inherited b i) e rule w
  reads_below (made forward) i None (m, (some, left), occurs) rule w =
      let edge : Edge s p (inherited (made forward) i) (top_inherited i) =
      by_copy_down (subst (Occurs s.attribution Inherited i) (sym left) occurs)
      (no_rule s (production_of t) p is (inherited (made forward) i) rule) some in
      elim (goes_read w) [
        | inl h ↦ record { to = top_inherited i; vertex = edge_vertex edge; walk = one (edge_here edge); reads = cc h }
        | inr u ↦ let h = goes_done u.2 in absurd (cc h)
      ]
  reads_below (made (local c)) i None vertex rule w = let h = goes_missing w in absurd (cc h)
  reads_below (child c) i None vertex rule w = let h = goes_missing w in absurd (cc h)

  reads_made : (m : Made) (o : Option Expression) → rule_of p (tree_of m) ≡ o
      → Goes (Sound s) (walk_made s.operations q vs o) (read r rest) → ReadFrom (tree_of m)
  reads_made m (Some e) rule w = reads_expression (tree_of m) e rule w
  reads_made m None rule w = let h = goes_missing w in absurd (cc h)

module _ (s : Setting) where
  -- a tree of a nonterminal on which the attribute occurs
  abbrev pub Takes : Tree → ℕ → Type 0
  Takes u y = (n : ℕ) × TreeFits s u n × Occurs s.attribution Synthesized y n

  reads_synthesized : (q : Path) (y : ℕ) (u : Tree) (r : Instance) (rest : Value → Walk) → NodeAt s q u → Takes u y
      → Goes (Sound s) (walk_synthesized s.operations s.attribution q y u) (read r rest) → Move s (synthesized_at q y) r
  reads_synthesized q y u r rest there f w =
      let i = fit_of s u f.0 f.1 in
      let rule = ap (λ (o : Option Production). rule_at s.operations s.attribution o (top_synthesized y)) i.is in
      let forwards = ap (λ (o : Option Production). rule_at s.operations s.attribution o (tree_of forward)) i.is in
      let occurs = subst (Occurs s.attribution Synthesized y) (sym i.left) f.2 in
      let m = reads_top s q u i.production there i.is (children_of u) i.below r rest y _ _ occurs (sym rule) (sym forwards) w in
      along m.to u i.production there i.is m.vertex m.walk m.reads

  -- what a production of a tree is
  pub same_production : (t : Tree) (p : Production) (n : ℕ) → IsOf s (production_of t) p → (f : IsFit s t n) → p ≡ f.production
  same_production t p n is f = same_Some p f.production (sym is ∙ f.is)

  tree_child : (p : Production) (c m : ℕ) (k : Kind) (u : Tree) → slice_get (kinds_of p) c ≡ Some k
      → IsBelow p (child c) m → k ≡ kd.Tree m
  tree_child p c m k u at below = by_child (slice_get p.children c) (sym (slice_get-map (λ (z : Child). value_kind z.kind) p.children c) ∙ at) below where
    by_child : (o : Option Child) → option_map (λ (z : Child). value_kind z.kind) o ≡ Some k
        → option_map (λ (z : Child). z.kind) o ≡ Some (child_kind.Value (kd.Tree m)) → k ≡ kd.Tree m
    by_child None none is = absurd (cc none)
    by_child (Some z) some is =
        sym (same_Some (value_kind z.kind) k some) ∙ ap value_kind (same_Some z.kind (child_kind.Value (kd.Tree m)) is)

  -- the tree at a place below takes what the graph says
  pub kid_takes : (c y : ℕ) (t u : Tree) (p : Production) → IsOf s (production_of t) p → Fits s t
      → IsVertex s.attribution p (synthesized (child c) y) → value_at (children_of t) c ≡ Some (tree u) → Takes u y
  kid_takes c y t u p is f (m, below, occurs) e =
      let i = fit_of s t f.0 f.1 in
      let same = same_production t p f.0 is i in
      let v = fits_at s (children_of t) (kinds_of i.production) c (tree u) i.below e in
      let at = subst (λ (z : Production). slice_get (kinds_of z) c ≡ Some v.0) (sym same) v.1 in
      let k = tree_child p c m v.0 u at below in
      let e' = sym v.2.1 ∙ k in
      let m_same : v.2.0 ≡ m = cc e' in
      (m, subst (TreeFits s u) m_same v.2.2, occurs)

  pub made_takes : (q : Path) (m : Made) (y : ℕ) (t u : Tree) (p : Production) → NodeAt s q t → IsOf s (production_of t) p
      → IsVertex s.attribution p (synthesized (made m) y) → IsMade s q m (tree u) → Takes u y
  made_takes q m y t u p there is (n, below, occurs) k =
      let same : t ≡ k.above = one_node s.attribution s.operations s.top there k.there in
      let is' = subst (λ (z : Tree). IsOf s (production_of z) p) same is in
      let p_same : p ≡ k.production = same_Some p k.production (sym is' ∙ k.is) in
      let below' = subst (λ (z : Production). IsBelow z (made m) n) p_same below in
      let n_same : k.nonterminal ≡ n = one_below k.production (made m) k.nonterminal n k.below below' in
      let e = k.fits.1 in
      let e_same : k.fits.0 ≡ k.nonterminal = cc e in
      (n, subst (TreeFits s u) (e_same ∙ n_same) k.fits.2, occurs)

  pub root_takes : (y : ℕ) (t : Tree) (p : Production) → IsOf s (production_of t) p → Fits s t
      → IsVertex s.attribution p (top_synthesized y) → Takes t y
  root_takes y t p is f vertex =
      let i = fit_of s t f.0 f.1 in
      let same = same_production t p f.0 is i in
      (f.0, f.1, subst (Occurs s.attribution Synthesized y) (ap (λ (z : Production). z.left) same ∙ i.left) vertex)

  pub below_fits : (t : Tree) (p : Production) → IsOf s (production_of t) p → Fits s t → AllFit s (children_of t) (kinds_of p)
  below_fits t p is f =
      let i = fit_of s t f.0 f.1 in
      subst (λ (z : Production). AllFit s (children_of t) (kinds_of z)) (sym (same_production t p f.0 is i)) i.below

  -- the walk of an instance with the production at its home
  moves : (i r : Instance) (t : Tree) (p : Production) (rest : Value → Walk) → NodeAt s (home i) t → IsOf s (production_of t) p
      → IsVertex s.attribution p (home_vertex i) → Fits s t → Goes (Sound s) (walk_of s.operations s.attribution i t) (read r rest)
      → Move s i r
  unfolding walk_of
  moves (synthesized_at root y) r t p rest there is vertex f w = reads_synthesized root y t r rest there (root_takes y t p is f vertex) w
  moves (synthesized_at (down q (child c)) y) r t p rest there is vertex f w = at_kid (value_at (children_of t) c) refl w where
    at_kid : (o : Option Value) → value_at (children_of t) c ≡ o
        → Goes (Sound s) (with_tree o (walk_synthesized s.operations s.attribution (down q (child c)) y)) (read r rest)
        → Move s (synthesized_at (down q (child c)) y) r
    at_kid (Some (tree u)) e w = reads_synthesized (down q (child c)) y u r rest (at_child there e) (kid_takes c y t u p is f vertex e) w
    at_kid (Some (plain z)) e w = let h = goes_missing w in absurd (cc h)
    at_kid None e w = let h = goes_missing w in absurd (cc h)
  moves (synthesized_at (down q (made m)) y) r t p rest there is vertex f w =
      elim (goes_read w) [ inl h ↦ to_tree q m y t p there is refl (cc h) | inr z ↦ at_tree z.0 z.1.0 z.1.1 z.2 ] where
        at_tree : (v : Value) → Answers s (tree_at q m) (value v) → IsMade s q m v
            → Goes (Sound s) (with_tree (Some v) (walk_synthesized s.operations s.attribution (down q (made m)) y)) (read r rest)
            → Move s (synthesized_at (down q (made m)) y) r
        at_tree (tree u) has k w =
            reads_synthesized (down q (made m)) y u r rest (at_made has) (made_takes q m y t u p there is vertex k) w
        at_tree (plain z) has k w = let h = goes_missing w in absurd (cc h)
  moves (inherited_at root i) r t p rest there is vertex f w = let h = goes_missing w in absurd (cc h)
  moves (inherited_at (down q b) i) r t p rest there is vertex f w =
      let rule = ap (λ (o : Option Production). rule_at s.operations s.attribution o (inherited b i)) is in
      let m = reads_below s q t p there is (children_of t) (below_fits t p is f) r rest b i _ vertex (sym rule) w in
      along m.to t p there is m.vertex m.walk m.reads
  moves (tree_at q m) r t p rest there is vertex f w =
      let rule = ap (λ (o : Option Production). rule_at s.operations s.attribution o (tree_of m)) is in
      let u = reads_made s q t p there is (children_of t) (below_fits t p is f) r rest m _ (sym rule) w in
      along u.to t p there is u.vertex u.walk u.reads

  pub move_of : {i r : Instance} → IsThere s i → Reading s i r → Move s i r
  move_of {i} {r} there n =
      let same : there.above ≡ n.at = one_node s.attribution s.operations s.top there.there n.is_node in
      let is = subst (λ (z : Tree). IsOf s (production_of z) there.production) same there.is in
      moves i r n.at there.production n.rest n.is_node is there.vertex (node_fits s n.is_node) (goes_from s n.comes)
