-- A part of a world, and an extension with the host, stay well defined by new numbers.
use Rattle.std.proofs.Common.{◌≡◌, ◌⊎◌, ◌∙◌, ℕ, List, IsTrue, Contains, refl, sym, subst, ap, inl, inr}
use Rattle.wb_flow_theory.specs.Rules.{Reads}
use Rattle.wb_flow_theory.specs.Vertices.{forward, Step, made, Vertex, top_synthesized, top_inherited, synthesized, inherited, tree_of}
use Rattle.wb_syntax_resolved.specs.declared.attributes.Direction.TheVariants.{Synthesized, Inherited}
use Rattle.wb_syntax_resolved.specs.Expression.{Node}
use Rattle.wb_compose_theory_worlds.specs.Named.{IsNamed}
use Rattle.wb_compose_theory_worlds.specs.Parts.{ReachesIn, IsWellDefinedIn, IsWellDefinedPart, IsWellDefinedExtension}
use Rattle.wb_compose_theory_worlds.specs.Worlds.{Owner, host, extension, World, Part, alone, part_of, Has, IsForwarding, IsBelowIn}
use Rattle.wb_compose_theory_worlds.specs.Worlds.{OccursIn, IsRuleIn}
use Rattle.wb_compose_theory_worlds.specs.Worlds.{HasRuleIn}
use Rattle.wb_compose_theory_worlds.proofs.SightLemmas.{has_seen, occurs_more}
use Rattle.wb_compose_theory_attributes.specs.Images.{IsImage, IsProductionImage, owner_among, IsExtensionImage}
use Rattle.wb_compose_theory_attributes.specs.Laws.{StaysPart, StaysExtension}
use Rattle.wb_compose_theory_attributes.specs.Numbers.{NumberMap, new_step}
use Rattle.wb_compose_theory_attributes.proofs.ImageLemmas.{occurs_back, needs_to, needs_back, forward_needs_to, forward_needs_back}
use Rattle.wb_compose_theory_attributes.proofs.ImageLemmas.{defined_to}
use Rattle.wb_compose_theory_attributes.proofs.ImageLemmas.{left_occurs_back, walk_back, start_back, top_reached}
use Rattle.wb_compose_theory_attributes.proofs.VertexLemmas.{step_once, vertex_once, synthesized_from, inherited_from, forward_from}

module _ (v : World) (named : IsNamed v) (part : Part) (w : World) (other : Part) (t : NumberMap) (image : IsImage v part w other t) where
  module _ (p : ℕ) (there : Has part (v.production_owner p)) (good : IsWellDefinedIn v part p) where
    abbrev q : ℕ
    q = t.production p

    row : IsProductionImage v part w other t p
    row = image.rows p there

    top : (b : ℕ) → OccursIn w other Synthesized (w.left q) b → HasRuleIn w other q (top_synthesized b) ⊎ IsForwarding w q
    top b occurs =
        let (a, occurs', b_is) = left_occurs_back v part w other t image p there Synthesized b occurs in
        elim (good.top a occurs') [
          | inl has ↦ inl (subst (λ z. HasRuleIn w other q (top_synthesized z)) (sym b_is)
              (defined_to v part w other t image p there (top_synthesized a) has))
          | inr forwards ↦ inr (row.forwards_to forwards)
        ]

    -- what is read one step down occurs there
    read_occurs : (x : Vertex) (e : List Node) (s : Step) (a m : ℕ) → IsRuleIn v part p x e → Reads e (synthesized s a)
        → IsBelowIn v part p s m → OccursIn v part Synthesized m a
    read_occurs x e s a m (o, has, writes) reads (below, seen) =
        let (n, (below', seen'), occurs) = named.reads_seen o p x e (synthesized s a) writes reads in
        let same : n ≡ m = cc (below, below') in
        subst (λ z. OccursIn v part Synthesized z a) same (occurs_more v Synthesized n a (part_of o) part
        (λ z. has_seen part o z has) occurs)

    below : (y : Vertex) (f : List Node) (r : Step) (b n j : ℕ) → IsRuleIn w other q y f → Reads f (synthesized r b)
        → IsBelowIn w other q r n → Contains (w.needs n b) j → HasRuleIn w other q (inherited r j) ⊎ (r ≡ made forward)
    below y f r b n j rule reads there_below needs =
        let (x, e, is, y_is, alike) = row.rule_from y f rule in
        let (u, e_reads, u_is) = alike.from (synthesized r b) reads in
        let (s, a, u_same, r_is, b_is) = synthesized_from t p u r b u_is in
        let (s', m, below', r_same, n_is) = row.below_from r n there_below in
        let same = step_once t image.once p s' s (sym r_same ∙ r_is) in
        let below_s = subst (λ z. IsBelowIn v part p z m) same below' in
        let read = subst (Reads e) u_same e_reads in
        let occurs = read_occurs x e s a m is read below_s in
        let moved = subst (λ z. Contains (w.needs z b) j) n_is needs in
        let (i, j_is, has) = needs_back v part w other t image m a j occurs (subst (λ z. Contains (w.needs
        (t.nonterminal m) z) j) b_is moved) in
        elim (good.below x e s a m i is read below_s has) [
          | inl defined ↦ inl (subst (λ z. HasRuleIn w other q (inherited r z)) (sym j_is)
              (subst (λ z. HasRuleIn w other q (inherited z (t.attribute i))) (sym r_is)
              (defined_to v part w other t image p there (inherited s i) defined)))
          | inr is_forward ↦ inr (r_is ∙ ap (new_step t p) is_forward)
        ]

    flow_types : (b j : ℕ) → OccursIn w other Synthesized (w.left q) b → ReachesIn w other q (top_synthesized b) (top_inherited j)
        → Contains (w.needs (w.left q) b) j
    flow_types b j occurs walk =
        let (a, occurs', b_is) = left_occurs_back v part w other t image p there Synthesized b occurs in
        let walk' = subst (λ z. ReachesIn w other q (top_synthesized z) (top_inherited j)) b_is walk in
        let (i, j_is, walked) = top_reached v part w other t image p there (top_synthesized a) j walk' in
        let has = needs_to v part w other t image (v.left p) a i occurs' (good.flow_types a i occurs' walked) in
        subst (λ z. Contains (w.needs (w.left q) b) z) (sym j_is) (subst (λ z. Contains (w.needs (w.left q) z) (t.attribute i)) (sym b_is)
        (subst (λ z. Contains (w.needs z (t.attribute a)) (t.attribute i)) (sym row.left) has))

    forward_flow_type : (j : ℕ) → ReachesIn w other q (tree_of forward) (top_inherited j) → Contains (w.forward_needs (w.left q)) j
    forward_flow_type j walk =
        let (i, j_is, walked) = top_reached v part w other t image p there (tree_of forward) j walk in
        let has = forward_needs_to v part w other t image (v.left p) i (good.forward_flow_type i walked) in
        subst (λ z. Contains (w.forward_needs (w.left q)) z) (sym j_is)
        (subst (λ z. Contains (w.forward_needs z) (t.attribute i)) (sym row.left) has)

    acyclic : (y : Vertex) → ¬ ReachesIn w other q y y
    acyclic y walk =
        let (x, y_is) = start_back v part w other t image p there walk in
        let (u, u_is, walked) = walk_back v part w other t image p there walk x y_is in
        let same = vertex_once t image.once p u x (sym u_is ∙ y_is) in
        good.acyclic x (subst (ReachesIn v part p x) same walked)

    pub production_stays : IsWellDefinedIn w other q
    production_stays =
        record { top = top; below = below; flow_types = flow_types; forward_flow_type = forward_flow_type; acyclic = acyclic }

  forwards_held : ((m a i : ℕ) → OccursIn v part Synthesized m a → Contains (v.forward_needs m) i → Contains (v.needs m a) i) → (n b j : ℕ)
      → OccursIn w other Synthesized n b → Contains (w.forward_needs n) j → Contains (w.needs n b) j
  forwards_held good n b j occurs has =
      let (m, a, occurs', n_is, b_is) = image.occurs_from Synthesized n b occurs in
      let (i, j_is, has') = forward_needs_back v part w other t image m j (subst (λ z. Contains (w.forward_needs z) j) n_is has) in
      let needed = needs_to v part w other t image m a i occurs' (good m a i occurs' has') in
      subst (λ z. Contains (w.needs n b) z) (sym j_is) (subst (λ z. Contains (w.needs n z) (t.attribute i)) (sym b_is)
      (subst (λ z. Contains (w.needs z (t.attribute a)) (t.attribute i)) (sym n_is) needed))

  pub part_stays : IsWellDefinedPart v part → IsWellDefinedPart w other
  part_stays good = record {
    productions = λ q has.
        let (p, there, q_is) = image.production_from q has in
        subst (IsWellDefinedIn w other) (sym q_is) (production_stays p there (good.productions p there));
    forward_needs = forwards_held good.forward_needs;
    start_inherits = λ j occurs.
        let (i, occurs', j_is) = occurs_back v part w other t image Inherited v.start j
        (subst (λ z. OccursIn w other Inherited z j) image.start occurs) in
        good.start_inherits i occurs';
  }

pub stays_part : (v : World) → StaysPart v
stays_part v named part w other t image good = part_stays v named part w other t image good

-- which owner is the host, and which an extension
host_among : (k : ℕ) (o : Owner) → owner_among k o ≡ host → o ≡ host
host_among k host is = refl
host_among k (extension j) is = absurd (cc is)

extension_among : (k : ℕ) (o : Owner) → Has (alone 0) o → owner_among k o ≡ extension k → o ≡ extension 0
extension_among k host has is = absurd (cc is)
extension_among k (extension j) has is = ap extension has

module _ (v : World) (named : IsNamed v) (w : World) (k : ℕ) (t : NumberMap) (image : IsExtensionImage v w k t) where
  -- a production of the extension on a nonterminal of the host
  record IsBridging (q : ℕ) : Type 0 where
    p : ℕ
    there : Has (alone 0) (v.production_owner p)
    is : q ≡ t.production p
    owner : v.production_owner p ≡ extension 0
    left : v.nonterminal_owner (v.left p) ≡ host

  -- its left side isn't closed where that in new numbers isn't
  open_back : (q : ℕ) (b : IsBridging q) → ¬ IsTrue (w.closed (w.left q)) → ¬ IsTrue (v.closed (v.left b.p))
  open_back q b free shut =
      free (ap (λ z. w.closed (w.left z)) b.is ∙ (ap w.closed (image.image.rows b.p b.there).left ∙ (image.closed (v.left b.p) ∙ shut)))

  bridging : (q : ℕ) → w.production_owner q ≡ extension k → w.nonterminal_owner (w.left q) ≡ host → IsBridging q
  bridging q owner left =
      let (p, there, q_is) = image.image.production_from q (subst (Has (alone k)) (sym owner) refl) in
      let owner_is = sym (image.production_owner p there) ∙ (sym (ap w.production_owner q_is) ∙ owner) in
      let left_is = sym (image.nonterminal_owner (v.left p)) ∙ (sym (ap w.nonterminal_owner (image.image.rows p there).left)
      ∙ (sym (ap (λ z. w.nonterminal_owner (w.left z)) q_is) ∙ left)) in
      record {
        p = p;
        there = there;
        is = q_is;
        owner = extension_among k (v.production_owner p) there owner_is;
        left = host_among k (v.nonterminal_owner (v.left p)) left_is;
      }

  module _ (good : IsWellDefinedExtension v 0) where
    forwards : (q : ℕ) → IsBridging q → ¬ IsTrue (w.closed (w.left q)) → IsForwarding w q
    forwards q b free = subst (IsForwarding w) (sym b.is)
        ((image.image.rows b.p b.there).forwards_to (good.forwards b.p b.owner b.left (open_back q b free)))

    reach : (p : ℕ) (there : Has (alone 0) (v.production_owner p)) → v.production_owner p ≡ extension 0
        → v.nonterminal_owner (v.left p) ≡ host → (j l : ℕ) → HasRuleIn w (alone k) (t.production p) (inherited (made forward) j)
        → ReachesIn w (alone k) (t.production p) (inherited (made forward) j) (top_inherited l)
        → Contains (w.forward_needs (w.left (t.production p))) l ⊎ (l ≡ j)
    reach p there owner left j l (f, rule) walk =
        let row = (image.image.rows p there) in
        let (x, e, is, j_is, alike) = row.rule_from (inherited (made forward) j) f rule in
        let (s, i, x_is, s_is, j_same) = inherited_from t p x (made forward) j j_is in
        let s_forward = forward_from t p s (sym s_is) in
        let x_same = x_is ∙ ap (λ z. inherited z i) s_forward in
        let has : HasRuleIn v (alone 0) p (inherited (made forward) i) = (e, subst (λ z. IsRuleIn v (alone 0) p z e) x_same is) in
        let walk' = subst (λ z. ReachesIn w (alone k) (t.production p) (inherited (made forward) z) (top_inherited l)) j_same walk in
        let (h, l_is, walked) = top_reached v (alone 0) w (alone k) t image.image p there (inherited (made forward) i) l walk' in
        elim (good.forward_equations p i h owner left has walked) [
          | inl needs ↦ inl (subst (λ z. Contains (w.forward_needs (w.left (t.production p))) z) (sym l_is)
              (subst (λ z. Contains (w.forward_needs z) (t.attribute h)) (sym row.left)
              (forward_needs_to v (alone 0) w (alone k) t image.image (v.left p) h needs)))
          | inr same ↦ inr (l_is ∙ (ap t.attribute same ∙ sym j_same))
        ]

    pub extension_stays : IsWellDefinedExtension w k
    extension_stays = record {
      part = part_stays v named (alone 0) w (alone k) t image.image good.part;
      forwards = λ q owner left free. forwards q (bridging q owner left) free;
      forward_equations = λ q j l owner left has walk.
          let b = bridging q owner left in
          let reached = reach b.p b.there b.owner b.left j l (subst (λ z. HasRuleIn w (alone k) z (inherited (made forward) j)) b.is has)
          (subst (λ z. ReachesIn w (alone k) z (inherited (made forward) j) (top_inherited l)) b.is walk) in
          subst (λ z. Contains (w.forward_needs (w.left z)) l ⊎ (l ≡ j)) (sym b.is) reached;
    }

pub stays_extension : (v : World) → StaysExtension v
stays_extension v named w k t image good = extension_stays v named w k t image good
