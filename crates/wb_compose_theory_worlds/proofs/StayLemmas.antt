-- What an owner sees leads, in a part that has the owner, only to what the owner sees, by edges that are there for the owner alone.
use Rattle.std.proofs.Common.{◌≡◌, ℕ, List, Some, IsTrue, Contains, sym, subst, ap, inl, inr}
use Rattle.wb_flow_theory.specs.Vertices.{local, forward, Step, child, made, Vertex, top_synthesized, top_inherited, synthesized}
use Rattle.wb_flow_theory.specs.Vertices.{inherited, tree_of}
use Rattle.wb_flow_theory.specs.Flow.{Leads, one, more}
use Rattle.wb_syntax_resolved.specs.declared.attributes.Direction.TheVariants.{Synthesized, Inherited}
use Rattle.wb_syntax_resolved.specs.Expression.{Node}
use Rattle.wb_compose_theory_worlds.specs.Worlds.{Owner, World, Part, Has, part_of, Sees, forwarded, below, step_owner, IsForwarding}
use Rattle.wb_compose_theory_worlds.specs.Worlds.{OccursIn, IsRuleIn}
use Rattle.wb_compose_theory_worlds.specs.Worlds.{IsVertexIn}
use Rattle.wb_compose_theory_worlds.specs.Named.{IsNamed, MayWrite, IsOwnLocal}
use Rattle.wb_compose_theory_worlds.specs.Parts.{HasEdgeIn, by_rule, by_flow_type, by_tree, by_copy_up, by_copy_down}
use Rattle.wb_compose_theory_worlds.proofs.SightLemmas.{sees_more, sees_same, has_seen, unique, Inside, occurs_more, vertex_more}
use Rattle.wb_compose_theory_worlds.proofs.SightLemmas.{defined_more}

pub forward_below : (w : World) (p : ℕ) → IsForwarding w p → below w p (made forward) ≡ Some (w.left p)
forward_below w p f = ap (forwarded (w.left p)) f.1

module _ (w : World) (named : IsNamed w) (p : ℕ) (o : Owner) (there : Sees o (w.production_owner p)) where
  own_local : (q : Owner) (s : Step) → IsOwnLocal w q p s → Has (part_of o) (step_owner w p s) → Sees o q
  own_local q (child k) own h = absurd own
  own_local q (made (local x)) own h = subst (λ z. Sees o z) own h
  own_local q (made forward) own h = absurd own

  -- who may write for a vertex that the owner sees is seen by the owner
  pub writer : (v : Vertex) (q : Owner) → IsVertexIn w (part_of o) p v → MayWrite w q p v → Sees o q
  writer (top_synthesized a) q seen (inl own) = subst (λ z. Sees o z) own there
  writer (top_synthesized a) q (r, h, d) (inr e) = subst (λ z. Sees o z) (unique w named Synthesized r q (w.left p) a d e) h
  writer (top_inherited i) q seen may = absurd may
  writer (synthesized s a) q seen may = absurd may
  writer (inherited s i) q seen (inl own) = subst (λ z. Sees o z) own there
  writer (inherited s i) q (m, b, at) (inr (inl own)) = own_local q s own b.1
  writer (inherited s i) q (m, b, at) (inr (inr (k, is, d))) =
      let is_m = b.0 in
      let same : k ≡ m = cc (is_m, is) in
      subst (λ z. Sees o z) (unique w named Inherited at.0 q m i at.2 (subst (λ z. IsTrue (w.declares Inherited q z i)) same d)) at.1
  writer (tree_of (local x)) q (k, b) own = subst (λ z. Sees o z) own b.1
  writer (tree_of forward) q seen own = subst (λ z. Sees o z) own there

module _ (w : World) (named : IsNamed w) (part : Part) (p : ℕ) (o : Owner) (has : Has part o) (there : Sees o (w.production_owner p)) where
  pub inside : Inside (part_of o) part
  inside q s = has_seen part o q has s

  pub rule_stays : (v : Vertex) (e : List Node) → IsVertexIn w (part_of o) p v → IsRuleIn w part p v e → IsRuleIn w (part_of o) p v e
  rule_stays v e seen (q, h, is) = (q, writer w named p o there v q seen (named.writes_may q p v e is), is)

  pub stays : {v x : Vertex} → HasEdgeIn w part p v x → IsVertexIn w (part_of o) p v
      → HasEdgeIn w (part_of o) p v x × IsVertexIn w (part_of o) p x
  stays {v} {x} (by_rule {e = e} r reads) seen =
      let here = rule_stays v e seen r in
      (by_rule here reads, vertex_more w p (part_of here.0) (part_of o) (λ z s. sees_more o here.0 z here.1 s) x (named.reads_seen here.0 p v e x here.2 reads))
  stays (by_flow_type {s = s} {a = a} {i = i} {m = k} b' at' c) (m, b, at) =
      let is_m = b.0 in
      let is_k = b'.0 in
      let same : k ≡ m = cc (is_m, is_k) in
      let c' = subst (λ z. Contains (w.needs z a) i) same c in
      let named_there = named.needs_named at.0 m a i at.2 c' in
      (by_flow_type b at c', (m, b, occurs_more w Inherited m i (part_of at.0) (part_of o) (λ z s. sees_more o at.0 z at.1 s) named_there))
  stays (by_tree b' at') (m, b, at) = (by_tree b at, (m, b))
  stays (by_copy_up {a =
      a} at free f) seen = (by_copy_up seen (λ d. free (defined_more w p (top_synthesized a) (part_of o) part inside d)) f, (w.left p, (forward_below w p f, there), seen))
  stays (by_copy_down {i = i} at' free f) (m, b, at) =
      let is_m = b.0 in
      let is_left = forward_below w p f in
      let same : m ≡ w.left p = cc (is_m, is_left) in
      let here = subst (λ z. OccursIn w (part_of o) Inherited z i) same at in
      (by_copy_down here (λ d. free (defined_more w p (inherited (made forward) i) (part_of o) part inside d)) f, here)

  pub walk_stays : {v x : Vertex} → IsVertexIn w (part_of o) p v → Leads (HasEdgeIn w part p) v x
      → Leads (HasEdgeIn w (part_of o) p) v x × IsVertexIn w (part_of o) p x
  walk_stays seen (one e) = let h = stays e seen in (one h.0, h.1)
  walk_stays seen (more s e) = let k = walk_stays seen s in let h = stays e k.1 in (more k.0 h.0, h.1)

-- no target has two equations, by any two owners
pub writes_unique : (w : World) → IsNamed w → (o q : Owner) (p : ℕ) (v : Vertex) (e f : List Node) → w.writes o p v ≡ Some e
    → w.writes q p v ≡ Some f → o ≡ q
writes_unique w named o q p v e f is_e is_f =
    sees_same o q
    (writer w named p o (named.writes_there o p v e is_e) v q (named.writes_seen o p v e is_e) (named.writes_may q p v f is_f))
    (writer w named p q (named.writes_there q p v f is_f) v o (named.writes_seen q p v f is_f) (named.writes_may o p v e is_e))

pub rule_unique : (w : World) → IsNamed w → (part : Part) (p : ℕ) (v : Vertex) (e f : List Node) → IsRuleIn w part p v e
    → IsRuleIn w part p v f → e ≡ f
rule_unique w named part p v e f (o, h, is_e) (q, k, is_f) =
    let same = writes_unique w named o q p v e f is_e is_f in
    let is_f' = subst (λ z. w.writes z p v ≡ Some f) (sym same) is_f in
    cc (is_e, is_f')
