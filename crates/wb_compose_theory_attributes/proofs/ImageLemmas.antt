-- The flow graph of a production in new numbers.
use Rattle.std.proofs.Common.{◌≡◌, ◌∙◌, ℕ, Contains, refl, sym, subst, ap}
use Rattle.wb_flow_theory.specs.Flow.{one, more}
use Rattle.wb_flow_theory.specs.Vertices.{Made, forward, Step, made, Vertex, top_synthesized, top_inherited, synthesized, inherited}
use Rattle.wb_flow_theory.specs.Vertices.{tree_of}
use Rattle.wb_syntax_resolved.specs.declared.attributes.Direction.{Direction}
use Rattle.wb_syntax_resolved.specs.declared.attributes.Direction.TheVariants.{Synthesized, Inherited}
use Rattle.wb_compose_theory_worlds.specs.Parts.{HasEdgeIn, by_rule, by_flow_type, by_tree, by_copy_up, by_copy_down, ReachesIn}
use Rattle.wb_compose_theory_worlds.specs.Worlds.{World, Part, Has, IsBelowIn, OccursIn, IsRuleIn, HasRuleIn}
use Rattle.wb_compose_theory_attributes.specs.Images.{IsImage, IsProductionImage}
use Rattle.wb_compose_theory_attributes.specs.Numbers.{NumberMap, new_made, new_step, new_vertex}
use Rattle.wb_compose_theory_attributes.proofs.VertexLemmas.{contains_map, map_contains, vertex_once, top_inherited_from}
use Rattle.wb_compose_theory_attributes.proofs.VertexLemmas.{made_from}

module _ (v : World) (part : Part) (w : World) (other : Part) (t : NumberMap) (image : IsImage v part w other t) where
  -- an attribute that occurs at a new number, and what its flow type has
  pub occurs_back : (d : Direction) (m b : ℕ) → OccursIn w other d (t.nonterminal m) b
      → (a : ℕ) × OccursIn v part d m a × (b ≡ t.attribute a)
  occurs_back d m b occurs =
      let (n, a, there, m_is, b_is) = image.occurs_from d (t.nonterminal m) b occurs in
      (a, subst (λ z. OccursIn v part d z a) (sym (image.once.nonterminal m n m_is)) there, b_is)

  pub needs_to : (m a i : ℕ) → OccursIn v part Synthesized m a → Contains (v.needs m a) i
      → Contains (w.needs (t.nonterminal m) (t.attribute a)) (t.attribute i)
  needs_to m a i occurs has =
      subst (λ z. Contains z (t.attribute i)) (sym (image.needs m a occurs)) (map_contains t.attribute (v.needs m a) i has)

  pub needs_back : (m a j : ℕ) → OccursIn v part Synthesized m a → Contains (w.needs (t.nonterminal m) (t.attribute a)) j
      → (i : ℕ) × (j ≡ t.attribute i) × Contains (v.needs m a) i
  needs_back m a j occurs has =
      contains_map t.attribute (v.needs m a) j (subst (λ z. Contains z j) (image.needs m a occurs) has)

  pub forward_needs_to : (m i : ℕ) → Contains (v.forward_needs m) i → Contains (w.forward_needs (t.nonterminal m)) (t.attribute i)
  forward_needs_to m i has =
      subst (λ z. Contains z (t.attribute i)) (sym (image.forward_needs m)) (map_contains t.attribute (v.forward_needs m) i has)

  pub forward_needs_back : (m j : ℕ) → Contains (w.forward_needs (t.nonterminal m)) j
      → (i : ℕ) × (j ≡ t.attribute i) × Contains (v.forward_needs m) i
  forward_needs_back m j has =
      contains_map t.attribute (v.forward_needs m) j (subst (λ z. Contains z j) (image.forward_needs m) has)

  module _ (p : ℕ) (there : Has part (v.production_owner p)) where
    abbrev q : ℕ
    q = t.production p

    row : IsProductionImage v part w other t p
    row = image.rows p there

    pub defined_to : (x : Vertex) → HasRuleIn v part p x → HasRuleIn w other q (new_vertex t p x)
    defined_to x (e, rule) = let (f, is, alike) = row.rule_to x e rule in (f, is)

    pub defined_back : (x : Vertex) → HasRuleIn w other q (new_vertex t p x) → HasRuleIn v part p x
    defined_back x (f, rule) =
        let (y, e, is, same, alike) = row.rule_from (new_vertex t p x) f rule in
        (e, subst (λ z. IsRuleIn v part p z e) (sym (vertex_once t image.once p x y same)) is)

    pub left_occurs_to : (d : Direction) (a : ℕ) → OccursIn v part d (v.left p) a → OccursIn w other d (w.left q) (t.attribute a)
    left_occurs_to d a occurs =
        subst (λ z. OccursIn w other d z (t.attribute a)) (sym row.left) (image.occurs_to d (v.left p) a occurs)

    pub left_occurs_back : (d : Direction) (b : ℕ) → OccursIn w other d (w.left q) b
        → (a : ℕ) × OccursIn v part d (v.left p) a × (b ≡ t.attribute a)
    left_occurs_back d b occurs = occurs_back d (v.left p) b (subst (λ z. OccursIn w other d z b) row.left occurs)

    -- an edge of the second flow graph is one of the first
    record EdgeBack (y z : Vertex) : Type 0 where
      start : Vertex
      finish : Vertex
      start_is : y ≡ new_vertex t p start
      finish_is : z ≡ new_vertex t p finish
      edge : HasEdgeIn v part p start finish

    tree_back : (k : Made) (b n : ℕ) (s : Step) (m a : ℕ) → IsBelowIn v part p s m → made k ≡ new_step t p s
        → OccursIn v part Synthesized m a → b ≡ t.attribute a → EdgeBack (synthesized (made k) b) (tree_of k)
    tree_back k b n s m a below s_is occurs b_is =
        let (l, is, k_is) = made_from t p s k s_is in
        record {
          start = synthesized (made l) a;
          finish = tree_of l;
          start_is = ap (λ z. synthesized (made z) b) k_is ∙ ap (synthesized (made (new_made t p l))) b_is;
          finish_is = ap tree_of k_is;
          edge = by_tree (subst (λ z. IsBelowIn v part p z m) is below) occurs;
        }

    edge_back : {y z : Vertex} → HasEdgeIn w other q y z → EdgeBack y z
    edge_back {y} {z} (by_rule {e = f} rule reads) =
        let (x, e, is, y_is, alike) = row.rule_from y f rule in
        let (u, e_reads, z_is) = alike.from z reads in
        record { start = x; finish = u; start_is = y_is; finish_is = z_is; edge = by_rule is e_reads }
    edge_back (by_flow_type {s = r} {a = b} {i = j} {m = n} below occurs needs) =
        let (s, m, below', r_is, n_is) = row.below_from r n below in
        let (a, occurs', b_is) = occurs_back Synthesized m b (subst (λ z. OccursIn w other Synthesized z b) n_is occurs) in
        let moved = subst (λ z. Contains (w.needs z b) j) n_is needs in
        let (i, j_is, has) = needs_back m a j occurs' (subst (λ z. Contains (w.needs (t.nonterminal m) z) j) b_is moved) in
        record {
          start = synthesized s a;
          finish = inherited s i;
          start_is = cc (r_is, b_is);
          finish_is = cc (r_is, j_is);
          edge = by_flow_type below' occurs' has;
        }
    edge_back (by_tree {k = k} {a = b} {m = n} below occurs) =
        let (s, m, below', s_is, n_is) = row.below_from (made k) n below in
        let (a, occurs', b_is) = occurs_back Synthesized m b (subst (λ z. OccursIn w other Synthesized z b) n_is occurs) in
        tree_back k b n s m a below' s_is occurs' b_is
    edge_back (by_copy_up {a = b} occurs free forwards) =
        let (a, occurs', b_is) = left_occurs_back Synthesized b occurs in
        let not_there : ¬ HasRuleIn v part p (top_synthesized a)
        = λ has. free (subst (λ z. HasRuleIn w other q (top_synthesized z)) (sym b_is) (defined_to (top_synthesized a) has)) in
        record {
          start = top_synthesized a;
          finish = synthesized (made forward) a;
          start_is = ap top_synthesized b_is;
          finish_is = ap (synthesized (made forward)) b_is;
          edge = by_copy_up occurs' not_there (row.forwards_from forwards);
        }
    edge_back (by_copy_down {i = j} occurs free forwards) =
        let (i, occurs', j_is) = left_occurs_back Inherited j occurs in
        let not_there : ¬ HasRuleIn v part p (inherited (made forward) i)
        = λ has. free (subst (λ z. HasRuleIn w other q (inherited (made forward) z)) (sym j_is)
        (defined_to (inherited (made forward) i) has)) in
        record {
          start = inherited (made forward) i;
          finish = top_inherited i;
          start_is = ap (inherited (made forward)) j_is;
          finish_is = ap top_inherited j_is;
          edge = by_copy_down occurs' not_there (row.forwards_from forwards);
        }

    -- so is a walk
    pub walk_back : {y z : Vertex} → ReachesIn w other q y z → (x : Vertex) → y ≡ new_vertex t p x
        → (u : Vertex) × (z ≡ new_vertex t p u) × ReachesIn v part p x u
    walk_back (one e) x y_is =
        let back = edge_back e in
        let same = vertex_once t image.once p back.start x (sym back.start_is ∙ y_is) in
        (back.finish, back.finish_is, one (subst (λ z. HasEdgeIn v part p z back.finish) same back.edge))
    walk_back (more walk e) x y_is =
        let (u, u_is, walked) = walk_back walk x y_is in
        let back = edge_back e in
        let same = vertex_once t image.once p back.start u (sym back.start_is ∙ u_is) in
        (back.finish, back.finish_is, more walked (subst (λ z. HasEdgeIn v part p z back.finish) same back.edge))

    pub start_back : {y z : Vertex} → ReachesIn w other q y z → (x : Vertex) × (y ≡ new_vertex t p x)
    start_back (one e) = let back = edge_back e in (back.start, back.start_is)
    start_back (more walk e) = start_back walk

    -- what reaches an inherited attribute of the top
    pub top_reached : (x : Vertex) (j : ℕ) → ReachesIn w other q (new_vertex t p x) (top_inherited j)
        → (i : ℕ) × (j ≡ t.attribute i) × ReachesIn v part p x (top_inherited i)
    top_reached x j walk =
        let (u, u_is, walked) = walk_back walk x refl in
        let (i, is, j_is) = top_inherited_from t p u j u_is in
        (i, j_is, subst (ReachesIn v part p x) is walked)
