-- No instance needs itself.
use Rattle.std.proofs.Common.{◌≡◌, ◌∙◌, ◌⊎◌, ◌<◌, inl, inr, ℕ, zero, suc, Option, Some, None, refl, sym, subst, ap, slice_get, arith}
use Rattle.std.proofs.lemmas.Option.{same_Some, slice_get-map}
use Rattle.std.specs.Prelude.{option_map}
use Rattle.wb_flow_theory.specs.Flow.{IsVertex, by_flow_type, by_tree, Leads, one, more}
use Rattle.wb_flow_theory.specs.Occurrences.{Occurs, Needs}
use Rattle.wb_flow_theory.specs.Rules.{IsBelow}
use Rattle.wb_flow_theory.specs.Vertices.{Made, Step, child, made, Vertex, top_synthesized, top_inherited, synthesized}
use Rattle.wb_flow_theory.specs.Vertices.{inherited, tree_of}
use Rattle.wb_base.specs.declared.symbol.Kind.TheVariants as kd
use Rattle.wb_syntax_resolved.specs.declared.attributes.Direction.TheVariants.{Synthesized, Inherited}
use Rattle.wb_syntax_resolved.specs.declared.production.Child.{Child}
use Rattle.wb_syntax_resolved.specs.declared.production.ChildKind.{ChildKind}
use Rattle.wb_syntax_resolved.specs.declared.production.ChildKind.TheVariants as child_kind
use Rattle.wb_syntax_resolved.specs.declared.production.Production.{Production}
use Rattle.wb_syntax_resolved.specs.Numbered.{value_kind}
use Rattle.wb_values.specs.Tree.{Tree, tree, production_of, children_of, value_at}
use Rattle.wb_eval_theory.proofs.AnswerLemmas.{one_node}
use Rattle.wb_eval_theory.proofs.KindLemmas.{fit_of, Fits, node_fits, kinded}
use Rattle.wb_eval_theory.proofs.ProductionLemmas.{one_below, well_defined}
use Rattle.wb_eval_theory.proofs.ReadLemmas.{place_of, vertex_at, IsThere, Moves, nil, snoc, append, append_some, EdgeAt, Move, along}
use Rattle.wb_eval_theory.proofs.ReadLemmas.{to_tree, move_of}
use Rattle.wb_eval_theory.proofs.Settings.{Setting, NodeAt, Reading, Needing, TreeFits, IsOf, Edge}
use Rattle.wb_eval_theory.proofs.SoundLemmas.{fits_at, kinds_of}
use Rattle.wb_eval_theory.specs.Answers.{at_child, at_made}
use Rattle.wb_eval_theory.specs.Instances.{Path, root, down, Instance, synthesized_at, tree_at, instance_of}
use Rattle.wb_eval_theory.specs.Needed.{itself, next}

-- how far below the root a node is
abbrev pub depth : Path → ℕ
depth root = 0
depth (down q b) = suc (depth q)

-- how a vertex was come to without going above a node: a walk there, and for each step down a synthesized attribute by which it was entered
pub data Nest (s : Setting) (b : Path) (v0 : Vertex) : Path → Vertex → Type 0 where
  level : {w : Vertex} → Moves (EdgeAt s b) v0 w → Nest s b v0 b w
  inside : {q : Path} {t : Step} {y : ℕ} {w : Vertex} → Nest s b v0 q (synthesized t y) → IsThere s (synthesized_at (down q t) y)
      → Moves (EdgeAt s (down q t)) (top_synthesized y) w → Nest s b v0 (down q t) w

module _ (s : Setting) where
  pub extend : {b : Path} {v0 : Vertex} {q : Path} {v w : Vertex} → Nest s b v0 q v → Leads (EdgeAt s q) v w → Nest s b v0 q w
  extend (level m) e = level (append m e)
  extend (inside n f m) e = inside n f (append m e)

  -- back at the node that it began at
  flat : {b : Path} {v0 : Vertex} {q : Path} {w : Vertex} → Nest s b v0 q w
      → (depth q ≡ depth b → Moves (EdgeAt s b) v0 w) × (depth b ≡ depth q ⊎ depth b < depth q)
  flat (level m) = (λ e. m, inl refl)
  flat (inside {q = q} {t = t} n f m) =
      let h = (flat n).1 in (
        λ e. absurd (elim h [ inl p ↦ omega arith | inr p ↦ omega arith ]),
        elim h [ inl p ↦ inr (omega arith) | inr p ↦ inr (omega arith) ],
      )

  pub is_moved : {q : Path} {v w : Vertex} → Moves (EdgeAt s q) v w → (v ≡ w) ⊎ Leads (EdgeAt s q) v w
  is_moved nil = inl refl
  is_moved {q} (snoc {x = x} m e) = inr (elim (is_moved m) [
    | inl h ↦ one (subst (λ (y : Vertex). EdgeAt s q y x) (sym h) e)
    | inr k ↦ more k e
  ])

  pub chain : {i j k : Instance} → Needing s i j → Needing s j k → Needing s i k
  chain n itself = n
  chain n (next m r) = next (chain n m) r

  first_step : {i j : Instance} → Needing s i j → (j ≡ i) ⊎ ((r : Instance) × Reading s i r × Needing s r j)
  first_step itself = inl refl
  first_step {i} {j} (next {i = k} n r) = by_case (first_step n) where
    by_case : ((k ≡ i) ⊎ ((m : Instance) × Reading s i m × Needing s m k)) → (j ≡ i) ⊎ ((m : Instance) × Reading s i m × Needing s m j)
    by_case (inl e) = inr (j, subst (λ (x : Instance). Reading s x j) e r, itself)
    by_case (inr z) = inr (z.0, z.1, next z.2 r)

  -- a node below another is of the nonterminal that the production above says
  pub record IsUnder (q : Path) (t : Step) (u : Tree) : Type 0 where
    pub above : Tree
    pub production : Production
    pub nonterminal : ℕ
    pub there : NodeAt s q above
    pub is : IsOf s (production_of above) production
    pub below : IsBelow production t nonterminal
    pub fits : TreeFits s u nonterminal

  kid_kind : (p : Production) (c m : ℕ) → slice_get (kinds_of p) c ≡ Some (kd.Tree m) → IsBelow p (child c) m
  kid_kind p c m at = by_child (slice_get p.children c) (sym (slice_get-map (λ (z : Child). value_kind z.kind) p.children c) ∙ at) where
    by_kind : (k : ChildKind) → value_kind k ≡ kd.Tree m → k ≡ child_kind.Value (kd.Tree m)
    by_kind (child_kind.Terminal number) is = absurd (cc is)
    by_kind (child_kind.Value k) is = ap child_kind.Value is

    by_child : (o : Option Child) → option_map (λ (z : Child). value_kind z.kind) o ≡ Some (kd.Tree m)
        → option_map (λ (z : Child). z.kind) o ≡ Some (child_kind.Value (kd.Tree m))
    by_child None none = absurd (cc none)
    by_child (Some z) some = ap Some (by_kind z.kind (same_Some (value_kind z.kind) (kd.Tree m) some))

  kid_under : (q : Path) (c : ℕ) (t u : Tree) → NodeAt s q t → Fits s t → value_at (children_of t) c ≡ Some (tree u) → IsUnder q (child c) u
  kid_under q c t u n f e =
      let i = fit_of s t f.0 f.1 in
      let v = fits_at s (children_of t) (kinds_of i.production) c (tree u) i.below e in
      record {
        above = t;
        production = i.production;
        nonterminal = v.2.0;
        there = n;
        is = i.is;
        below = kid_kind i.production c v.2.0 (v.1 ∙ ap Some v.2.1);
        fits = v.2.2;
      }

  pub under_of : {q : Path} {t : Step} {u : Tree} → NodeAt s (down q t) u → IsUnder q t u
  under_of {q} {u = u} (at_child {k = c} {t = t} n e) = kid_under q c t u n (node_fits s n) e
  under_of {u = u} (at_made has) =
      let k = kinded s has in
      let e = k.fits.1 in
      let same : k.fits.0 ≡ k.nonterminal = cc e in
      record {
        above = k.above;
        production = k.production;
        nonterminal = k.nonterminal;
        there = k.there;
        is = k.is;
        below = k.below;
        fits = subst (TreeFits s u) same k.fits.2;
      }

  -- the edges at a path are those of one graph
  pub edges_of : {q : Path} {v w : Vertex} (t : Tree) (p : Production) → NodeAt s q t → IsOf s (production_of t) p → EdgeAt s q v w
      → Edge s p v w
  edges_of {v = v} {w = w} t p n is e =
      let same : e.above ≡ t = one_node s.attribution s.operations s.top e.there n in
      let is' = subst (λ (x : Tree). IsOf s (production_of x) e.production) same e.is in
      subst (λ (x : Production). Edge s x v w) (same_Some e.production p (sym is' ∙ is)) e.edge

  pub walk_in : {q : Path} {v w : Vertex} (t : Tree) (p : Production) → NodeAt s q t → IsOf s (production_of t) p → Leads (EdgeAt s q) v w
      → Leads (Edge s p) v w
  walk_in t p n is (one e) = one (edges_of t p n is e)
  walk_in t p n is (more m e) = more (walk_in t p n is m) (edges_of t p n is e)

  pub last_edge : {q : Path} {v w : Vertex} → Leads (EdgeAt s q) v w → (x : Vertex) × EdgeAt s q x w
  last_edge (one {v = v} e) = (v, e)
  last_edge (more {w = x} m e) = (x, e)

  pub no_cycle : {q : Path} {v : Vertex} → Leads (EdgeAt s q) v v → ⊥
  no_cycle {v = v} m =
      let e = (last_edge m).1 in
      (well_defined s (production_of e.above) e.production e.is).acyclic v (walk_in e.above e.production e.there e.is m)

  left_under : {q : Path} {t : Step} (u : Tree) (p : Production) → IsOf s (production_of u) p → (b : IsUnder q t u) → p.left ≡ b.nonterminal
  left_under u p is b =
      let i = fit_of s u b.nonterminal b.fits in
      ap (λ (z : Production). z.left) (same_Some p i.production (sym is ∙ i.is)) ∙ i.left

  -- a synthesized attribute that reaches an inherited one of its node has it in its flow type, as the production above sees
  edge_above : {q : Path} {t : Step} {y i : ℕ} → IsThere s (synthesized_at (down q t) y)
      → Leads (EdgeAt s (down q t)) (top_synthesized y) (top_inherited i) → EdgeAt s q (synthesized t y) (inherited t i)
  edge_above {q} {t} {y} {i} there w =
      let e = (last_edge w).1 in
      let p = e.production in
      let flow = (well_defined s (production_of e.above) p e.is).flow_types y i in
      let b = under_of e.there in
      let (m, below, occurs) = there.vertex in
      let up : b.above ≡ there.above = one_node s.attribution s.operations s.top b.there there.there in
      let is' = subst (λ (x : Tree). IsOf s (production_of x) b.production) up b.is in
      let p_same : b.production ≡ there.production = same_Some b.production there.production (sym is' ∙ there.is) in
      let below' = subst (λ (x : Production). IsBelow x t b.nonterminal) p_same b.below in
      let left : p.left ≡ m = left_under e.above p e.is b ∙ one_below there.production t b.nonterminal m below' below in
      let has = flow (subst (Occurs s.attribution Synthesized y) (sym left) occurs) (walk_in e.above p e.there e.is w) in
      record {
        above = there.above;
        production = there.production;
        there = there.there;
        is = there.is;
        edge = by_flow_type below occurs (subst (λ (z : ℕ). Needs s.attribution y z i) left has);
      }

  tree_there : (q : Path) (m : Made) (y : ℕ) → IsThere s (synthesized_at (down q (made m)) y) → IsThere s (tree_at q m)
  tree_there q m y f =
      record { above = f.above; production = f.production; there = f.there; is = f.is; vertex = (f.vertex.0, f.vertex.1) }

  -- an instance that a vertex of a graph stands for
  pub there_at : (q : Path) (t : Tree) (p : Production) (v : Vertex) → NodeAt s q t → IsOf s (production_of t) p
      → IsVertex s.attribution p v → IsThere s (instance_of q v)
  there_at root t p (top_synthesized y) n is v = record { above = t; production = p; there = n; is = is; vertex = v }
  there_at root t p (top_inherited i) n is v = record { above = t; production = p; there = n; is = is; vertex = v }
  there_at (down q b) t p (top_synthesized y) n is v =
      let u = under_of n in
      record {
        above = u.above;
        production = u.production;
        there = u.there;
        is = u.is;
        vertex = (u.nonterminal, u.below, subst (Occurs s.attribution Synthesized y) (left_under t p is u) v);
      }
  there_at (down q b) t p (top_inherited i) n is v =
      let u = under_of n in
      record {
        above = u.above;
        production = u.production;
        there = u.there;
        is = u.is;
        vertex = (u.nonterminal, u.below, subst (Occurs s.attribution Inherited i) (left_under t p is u) v);
      }
  there_at q t p (synthesized b y) n is v = record { above = t; production = p; there = n; is = is; vertex = v }
  there_at q t p (inherited b i) n is v = record { above = t; production = p; there = n; is = is; vertex = v }
  there_at q t p (tree_of m) n is v = record { above = t; production = p; there = n; is = is; vertex = v }

  pub there_after : {i r : Instance} → IsThere s i → Reading s i r → IsThere s r
  there_after {i} {r} f reading = by_move (move_of s f reading) where
    by_move : Move s i r → IsThere s r
    by_move (along v t p n is vertex w e) = subst (IsThere s) (sym e) (there_at (place_of i) t p v n is vertex)
    by_move (to_tree q m y t p n is at to) = subst (IsThere s) (sym to) (tree_there q m y (subst (IsThere s) at f))

  pub there_needed : {i j : Instance} → IsThere s i → Needing s i j → IsThere s j
  there_needed f itself = f
  there_needed f (next m reading) = there_after (there_needed f m) reading

  abbrev After : Path → Vertex → Instance → Type 0
  After b v0 r = Nest s b v0 (place_of r) (vertex_at r) ⊎ (depth (place_of r) < depth b)

  tops : {b : Path} {v0 : Vertex} {q : Path} {t : Step} {w : Vertex} (i : ℕ) → Nest s b v0 (down q t) w → w ≡ top_inherited i
      → Nest s b v0 q (inherited t i) ⊎ (depth q < depth b)
  tops i (level m) e = inr (omega arith)
  tops i (inside {q = q} {t = t} {y = y} n f m) e =
      inl (extend n (one (edge_above f (moved (subst (λ (x : Vertex). Moves (EdgeAt s (down q t)) (top_synthesized y) x) e m))))) where
        moved : Moves (EdgeAt s (down q t)) (top_synthesized y) (top_inherited i) → Leads (EdgeAt s (down q t)) (top_synthesized y) (top_inherited i)
        moved w = elim (is_moved w) [ inl h ↦ absurd (cc h) | inr k ↦ k ]

  trees : {b : Path} {v0 : Vertex} {q : Path} {m : Made} {w : Vertex} → Nest s b v0 (down q (made m)) w
      → Nest s b v0 q (tree_of m) ⊎ (depth q < depth b)
  trees (level m) = inr (omega arith)
  trees (inside n f m) =
      let (k, below, occurs) = f.vertex in
      inl (extend n (one (record { above = f.above; production = f.production; there = f.there; is = f.is; edge = by_tree below occurs })))

  settle : (b : Path) (v0 : Vertex) (q : Path) (v : Vertex) → IsThere s (instance_of q v) → Nest s b v0 q v → After b v0 (instance_of q v)
  settle b v0 q (top_synthesized y) f n = inl n
  settle b v0 root (top_inherited i) f n = inl n
  settle b v0 (down q t) (top_inherited i) f n = tops i n refl
  settle b v0 q (synthesized t y) f n = inl (inside n f nil)
  settle b v0 q (inherited t i) f n = inl n
  settle b v0 q (tree_of m) f n = inl n

  after_move : {b : Path} {v0 : Vertex} {i r : Instance} → Nest s b v0 (place_of i) (vertex_at i) → Move s i r → After b v0 r
  after_move {b} {v0} {i} {r} n (along v t p k is vertex w e) =
      subst (After b v0) (sym e) (settle b v0 (place_of i) v (there_at (place_of i) t p v k is vertex) (extend n w))
  after_move {b} {v0} {i} {r} n (to_tree q m y t p k is at to) =
      subst (After b v0) (sym to) (trees (subst (λ (z : Instance). Nest s b v0 (place_of z) (vertex_at z)) at n))

  -- either what is needed stays at or below b, or something above it is needed
  pub run : {b : Path} {v0 : Vertex} {r j : Instance} → IsThere s r → Nest s b v0 (place_of r) (vertex_at r) → Needing s r j
      → Nest s b v0 (place_of j) (vertex_at j) ⊎ ((k : Instance) × (depth (place_of k) < depth b) × Needing s r k × Needing s k j)
  run f n itself = inl n
  run {b} {v0} {r} {j} f n (next {i = i} m reading) = elim (run f n m) [
    | inl k ↦ elim (after_move k (move_of s (there_needed f m) reading)) [
      | inl x ↦ inl x
      | inr lt ↦ inr (j, lt, next m reading, itself)
    ]
    | inr z ↦ inr (z.0, z.1, z.2, next z.3 reading)
  ]

  -- a cycle at k is a cycle of one graph, or comes to a node above k
  at_lowest : {k r : Instance} → IsThere s r → Move s k r → Needing s r k
      → (l : Instance) × (depth (place_of l) < depth (place_of k)) × Needing s r l × Needing s l k
  at_lowest {k} {r} f (along v t p n is vertex w e) needs =
      let b = place_of k in
      elim (subst (After b v) (sym e) (settle b v b v (there_at b t p v n is vertex) (level nil))) [
        | inl n ↦ elim (run f n needs) [ inl h ↦ absurd (no_cycle (append_some w ((flat h).0 refl))) | inr z ↦ z ]
        | inr lt ↦ (r, lt, itself, needs)
      ]
  at_lowest {k} {r} f (to_tree q m y t p n is at to) needs =
      let dk = ap (λ (z : Instance). depth (place_of z)) at in
      let dr = ap (λ (z : Instance). depth (place_of z)) to in
      (r, omega (arith, dk, dr), itself, needs)

  none_below : (d : ℕ) (k r : Instance) → depth (place_of k) < d → IsThere s k → Reading s k r → Needing s r k → ⊥
  none_below zero k r lt f reading needs = absurd (omega arith)
  none_below (suc d) k r lt f reading needs =
      let fr = there_after f reading in
      let z = at_lowest fr (move_of s f reading) needs in
      elim (first_step z.3) [
        | inl e ↦ absurd (let h = ap (λ (y : Instance). depth (place_of y)) e in omega (arith, h, z.1))
        | inr g ↦ none_below d z.0 g.0 (omega (arith, z.1)) (there_needed fr z.2) g.1 (chain g.2 (chain (next itself reading) z.2))
      ]

  -- what an instance reads doesn't need the instance
  pub nothing_needs_itself : (k r : Instance) → IsThere s k → Reading s k r → Needing s r k → ⊥
  nothing_needs_itself k r f reading needs = none_below (suc (depth (place_of k))) k r (omega arith) f reading needs
