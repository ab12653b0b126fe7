-- The union of a host and extensions, each of which passes with the host alone, passes.
use Rattle.std.proofs.Common.{◌≡◌, ◌⊎◌, ◌<◌, ◌∙◌, ℕ, List, Some, IsTrue, Contains, refl, sym, subst, ap, inl, inr, arith}
use Rattle.wb_flow_theory.specs.Vertices.{forward, Step, made, Vertex, top_synthesized, top_inherited, synthesized, inherited, tree_of}
use Rattle.wb_flow_theory.specs.Flow.{Leads}
use Rattle.wb_flow_theory.specs.Rules.{Reads}
use Rattle.wb_syntax_resolved.specs.declared.attributes.Direction.TheVariants.{Synthesized}
use Rattle.wb_syntax_resolved.specs.Expression.{Node}
use Rattle.wb_compose_theory_worlds.specs.Worlds.{Owner, host, extension, World, union, Has, part_of, Sees, IsForwarding, IsBelowIn}
use Rattle.wb_compose_theory_worlds.specs.Worlds.{OccursIn, IsRuleIn}
use Rattle.wb_compose_theory_worlds.specs.Worlds.{HasRuleIn, IsVertexIn}
use Rattle.wb_compose_theory_worlds.specs.Named.{IsNamed}
use Rattle.wb_compose_theory_worlds.specs.Parts.{HasEdgeIn, IsWellDefinedIn, IsWellDefinedPart, AreWellDefinedApart}
use Rattle.wb_compose_theory_worlds.proofs.SightLemmas.{sees_itself, has_seen, unique, defined_more, apart, one_seen, sees_extension}
use Rattle.wb_compose_theory_worlds.proofs.SightLemmas.{Meeting}
use Rattle.wb_compose_theory_worlds.proofs.SightLemmas.{first_sees, second_sees, strangers, meeting}
use Rattle.wb_compose_theory_worlds.proofs.StayLemmas.{forward_below, walk_stays}
use Rattle.wb_compose_theory_worlds.proofs.WalkLemmas.{Walks, append1, first_edge, moved, from_top, from_syn, from_inh, from_top_inh}
use Rattle.wb_compose_theory_worlds.proofs.WalkLemmas.{from_tree_of, passes}

pub passing_of : {w : World} {n : ℕ} → AreWellDefinedApart w n → (o : Owner) → Has (union n) o → IsWellDefinedPart w (part_of o)
passing_of ok host has = ok.host_part
passing_of ok (extension k) has = (ok.extensions k has).part

module _ (w : World) (named : IsNamed w) (n : ℕ) (ok : AreWellDefinedApart w n) (p : ℕ) (there : Has (union n) (w.production_owner p)) where
  abbrev E : Vertex → Vertex → Type 0
  E = HasEdgeIn w (union n) p

  ok_at : (o : Owner) → Has (union n) o → Sees o (w.production_owner p) → IsWellDefinedIn w (part_of o) p
  ok_at o has sees = (passing_of ok o has).productions p sees

  -- an occurrence of one extension on the left side of another's production
  record Strange (a : ℕ) : Type 0 where
    maker : ℕ
    other : ℕ
    made_by : w.production_owner p ≡ extension maker
    declared : IsTrue (w.declares Synthesized (extension other) (w.left p) a)
    listed : other < n
    differ : maker ≡ other → ⊥

  -- an occurrence that somebody who sees the production sees, or a strange one
  data Place (a : ℕ) : Type 0 where
    known : (o : Owner) → Has (union n) o → Sees o (w.production_owner p) → OccursIn w (part_of o) Synthesized (w.left p) a → Place a
    strange : Strange a → Place a

  place : (a : ℕ) → OccursIn w (union n) Synthesized (w.left p) a → Place a
  place a (o, has, d) = go (meeting (w.production_owner p) o)
    where
      go : Meeting (w.production_owner p) o → Place a
      go (first_sees s) = known (w.production_owner p) there (sees_itself (w.production_owner p)) (o, s, d)
      go (second_sees s) = known o has s (o, sees_itself o, d)
      go (strangers j k made_by is differ) =
          strange (record {
            maker =
                j;
            other = k;
            made_by = made_by;
            declared = subst (λ z. IsTrue (w.declares Synthesized z (w.left p) a)) is d;
            listed = subst (Has (union n)) is has;
            differ = differ;
          })

  module _ (a : ℕ) (x : Strange a) where
    maker_listed : x.maker < n
    maker_listed = subst (Has (union n)) x.made_by there

    left_host : w.nonterminal_owner (w.left p) ≡ host
    left_host =
        apart x.maker x.other (w.nonterminal_owner (w.left p)) x.differ (subst (λ z. Sees z (w.nonterminal_owner (w.left p))) x.made_by (named.left_seen p)) (named.nonterminal Synthesized (extension x.other) (w.left p) a x.declared)

    -- nobody but the host declares anything on a closed nonterminal of the host
    left_open : ¬ IsTrue (w.closed (w.left p))
    left_open shut =
        let owner : host ≡ extension x.other = sym left_host ∙ named.closed Synthesized (extension x.other) (w.left p) a x.declared shut in
        absurd (cc owner)

    strange_forwards : IsForwarding w p
    strange_forwards = (ok.extensions x.maker maker_listed).forwards p x.made_by left_host left_open

    -- nobody writes for it there
    strange_free : HasRuleIn w (union n) p (top_synthesized a) → ⊥
    strange_free (e, (q, h, is)) =
        let seen = named.writes_seen q p (top_synthesized a) e is in
        let same = unique w named Synthesized seen.0 (extension x.other) (w.left p) a seen.2 x.declared in
        x.differ (one_seen x.maker x.other q (subst (λ z. Sees q z) x.made_by (named.writes_there q p (top_synthesized a) e is)) (subst (λ z. Sees q z) same seen.1))

    -- what the forward may need is in its flow type
    from_forward : (i : ℕ) → Contains (w.forward_needs (w.left p)) i → Contains (w.needs (w.left p) a) i
    from_forward i c = (ok.extensions x.other x.listed).part.forward_needs (w.left p) a i (extension x.other, refl, x.declared) c

    from_tree : (i : ℕ) → Leads E (tree_of forward) (top_inherited i) → Contains (w.needs (w.left p) a) i
    from_tree i s =
        let o = w.production_owner p in
        from_forward i ((ok_at o there (sees_itself o)).forward_flow_type i ((walk_stays w named (union n) p o there (sees_itself o) (w.left p, (forward_below w p strange_forwards, sees_itself o)) s).0))

    -- an equation of the maker for what the forward inherits
    from_written : (i j : ℕ) → Contains (w.needs (w.left p) a) i → HasRuleIn w (union n) p (inherited (made forward) i)
        → Leads E (inherited (made forward) i) (top_inherited j) → Contains (w.needs (w.left p) a) j
    from_written i j c (e, (q, h, is)) s =
        let v = inherited (made forward) i in
        let same : q ≡ extension x.maker = sees_extension q x.maker (subst (λ z. Sees q z) x.made_by (named.writes_there q p v e is)) in
        let mine = subst (λ z. w.writes z p v ≡ Some e) same is in
        let sees = named.writes_there (extension x.maker) p v e mine in
        let stay = (walk_stays w named (union n) p (extension x.maker) maker_listed sees (named.writes_seen (extension x.maker) p v e mine) s).0 in
        elim ((ok.extensions x.maker maker_listed).forward_equations p i j x.made_by left_host (e, (extension x.maker, refl, mine)) stay) [
          | inl f ↦ from_forward j f
          | inr f ↦ subst (λ z. Contains (w.needs (w.left p) a) z) (sym f) c
        ]

    from_below : (i j : ℕ) → Contains (w.needs (w.left p) a) i → Leads E (inherited (made forward) i) (top_inherited j)
        → Contains (w.needs (w.left p) a) j
    from_below i j c s = let f = first_edge s in elim (from_inh w named (union n) p f.1) [
      | inl d ↦ from_written i j c d s
      | inr is ↦ elim (moved (subst (λ z. Walks E z (top_inherited j)) is f.2)) [
        | inl e ↦ let same : i ≡ j = cc in subst (λ z. Contains (w.needs (w.left p) a) z) same c
        | inr t ↦ absurd (from_top_inh w named (union n) p ((first_edge t).1))
      ]
    ]

    from_syn_there : (j : ℕ) → Leads E (synthesized (made forward) a) (top_inherited j) → Contains (w.needs (w.left p) a) j
    from_syn_there j s = let f = first_edge s in elim (from_syn w named (union n) p f.1) [
      | inl z ↦
          let is_m = z.2.0 in
          let is_left = forward_below w p strange_forwards in
          let same : z.1 ≡ w.left p = cc (is_m, is_left) in
          elim (moved (subst (λ y. Walks E y (top_inherited j)) z.4 f.2)) [
            | inl e ↦ cc
            | inr t ↦ from_below z.0 j (subst (λ y. Contains (w.needs y a) z.0) same z.3) t
          ]
      | inr z ↦
          let is = z.1 in
          let same : z.0 ≡ forward = cc in
          elim (moved (subst (λ y. Walks E y (top_inherited j)) (z.2 ∙ ap tree_of same) f.2)) [
            | inl e ↦ cc
            | inr t ↦ from_tree j t
          ]
    ]

    strange_flow : (j : ℕ) → Leads E (top_synthesized a) (top_inherited j) → Contains (w.needs (w.left p) a) j
    strange_flow j s = let f = first_edge s in elim (from_top w named (union n) p f.1) [
      | inl d ↦ absurd (strange_free d)
      | inr is ↦ elim (moved (subst (λ y. Walks E y (top_inherited j)) is f.2)) [
        | inl e ↦ cc
        | inr t ↦ from_syn_there j t
      ]
    ]

  union_production : IsWellDefinedIn w (union n) p
  union_production = record {
    top = λ a at. top_at a (place a at);
    below = below_at;
    flow_types = λ a i at s. flow_at a i s (place a at);
    forward_flow_type = λ i s. let o = w.production_owner p in
        (ok_at o there (sees_itself o)).forward_flow_type i ((walk_stays w named (union n) p o there (sees_itself o) (tree_seen i s) s).0);
    acyclic = acyclic_at;
  }
    where
      defined_back : (o : Owner) → Has (union n) o → (v : Vertex) → HasRuleIn w (part_of o) p v → HasRuleIn w (union n) p v
      defined_back o has v d = defined_more w p v (part_of o) (union n) (λ q s. has_seen (union n) o q has s) d

      top_at : (a : ℕ) → Place a → HasRuleIn w (union n) p (top_synthesized a) ⊎ IsForwarding w p
      top_at a (known o has sees at) =
          elim ((ok_at o has sees).top a at) [ inl d ↦ inl (defined_back o has (top_synthesized a) d) | inr f ↦ inr f ]
      top_at a (strange x) = inr (strange_forwards a x)

      below_at : (v : Vertex) (e : List Node) (s : Step) (a m i : ℕ) → IsRuleIn w (union n) p v e → Reads e (synthesized s a)
          → IsBelowIn w (union n) p s m → Contains (w.needs m a) i → HasRuleIn w (union n) p (inherited s i) ⊎ (s ≡ made forward)
      below_at v e s a m i (q, has, is) reads b c =
          let seen = named.reads_seen q p v e (synthesized s a) is reads in
          let is_m = b.0 in
          let is_k = seen.1.0 in
          let same : m ≡ seen.0 = cc (is_m, is_k) in
          elim ((ok_at q has (named.writes_there q p v e is)).below v e s a seen.0 i (q, sees_itself q, is) reads seen.1 (subst (λ z. Contains (w.needs z a) i) same c)) [
            | inl d ↦ inl (defined_back q has (inherited s i) d)
            | inr f ↦ inr f
          ]

      flow_at : (a i : ℕ) → Leads E (top_synthesized a) (top_inherited i) → Place a → Contains (w.needs (w.left p) a) i
      flow_at a i s (known o has sees at) = (ok_at o has sees).flow_types a i at ((walk_stays w named (union n) p o has sees at s).0)
      flow_at a i s (strange x) = strange_flow a x i s

      tree_seen : (i : ℕ) → Leads E (tree_of forward) (top_inherited i) → IsVertexIn w (part_of (w.production_owner p)) p (tree_of forward)
      tree_seen i s =
          let d = from_tree_of w named (union n) p ((first_edge s).1) in
          let is = d.1.2 in
          let mine = named.writes_may d.1.0 p (tree_of forward) d.0 is in
          subst (λ z. IsVertexIn w (part_of z) p (tree_of forward)) (sym mine) (named.writes_seen d.1.0 p (tree_of forward) d.0 is)

      acyclic_at : (v : Vertex) → Leads E v v → ⊥
      acyclic_at v s = elim (passes w named (union n) p s) [
        | inl lt ↦ absurd (omega (arith, lt))
        | inr z ↦
            let q = z.1.1.0 in
            let is = z.1.1.2 in
            let sees = named.writes_there q p z.0 z.1.0 is in
            (ok_at q z.1.1.1 sees).acyclic z.0 ((walk_stays w named (union n) p q z.1.1.1 sees (named.writes_seen q p z.0 z.1.0 is) (append1 z.3 z.2)).0)
      ]

pub union_is_well_defined : (w : World) (n : ℕ) → IsNamed w → AreWellDefinedApart w n → IsWellDefinedPart w (union n)
union_is_well_defined w n named ok = record {
  productions = λ p there. union_production w named n ok p there;
  forward_needs = λ m a i at c. (passing_of ok at.0 at.1).forward_needs m a i (at.0, sees_itself at.0, at.2) c;
  start_inherits = λ i at. (passing_of ok at.0 at.1).start_inherits i (at.0, sees_itself at.0, at.2);
}
