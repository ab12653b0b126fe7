-- Walks from their first edge, and what an edge from a vertex of each form leads to.
use Rattle.std.proofs.Common.{◌≡◌, ◌⊎◌, ◌<◌, ℕ, Contains, refl, sym, subst, inl, inr, arith}
use Rattle.wb_flow_theory.specs.Vertices.{Made, forward, Step, made, Vertex, top_synthesized, top_inherited, synthesized, inherited}
use Rattle.wb_flow_theory.specs.Vertices.{tree_of}
use Rattle.wb_flow_theory.specs.Flow.{Leads, one, more}
use Rattle.wb_compose_theory_worlds.specs.Worlds.{World, Part, below, IsBelowIn, HasRuleIn}
use Rattle.wb_compose_theory_worlds.specs.Named.{IsNamed}
use Rattle.wb_compose_theory_worlds.specs.Parts.{HasEdgeIn, by_rule, by_flow_type, by_tree, by_copy_up, by_copy_down}

-- a walk of any number of edges
pub data Walks {V : Type 0} (E : V → V → Type 0) : V → V → Type 0 where
  nil : {v : V} → Walks E v v
  snoc : {v w x : V} → Walks E v w → E w x → Walks E v x

pub append1 : {V : Type 0} {E : V → V → Type 0} {v w x : V} → Leads E v w → Walks E w x → Leads E v x
append1 s nil = s
append1 s (snoc r e) = more (append1 s r) e

pub first_edge : {V : Type 0} {E : V → V → Type 0} {v x : V} → Leads E v x → (y : V) × E v y × Walks E y x
first_edge (one {w = y} e) = (y, e, nil)
first_edge (more s e) = let h = first_edge s in (h.0, h.1, snoc h.2 e)

pub moved : {V : Type 0} {E : V → V → Type 0} {v x : V} → Walks E v x → (v ≡ x) ⊎ Leads E v x
moved nil = inl refl
moved {E = E} (snoc {x = x} s e) = inr (elim (moved s) [ inl h ↦ one (subst (λ y. E y x) (sym h) e) | inr k ↦ more k e ])

pub still : {V : Type 0} {E : V → V → Type 0} {v x : V} → Leads E v x → Walks E v x
still (one e) = snoc nil e
still (more s e) = snoc (still s) e

-- where there is no rule, edges lead down these ranks
abbrev pub rank : Vertex → ℕ
rank (top_synthesized a) = 3
rank (synthesized s a) = 2
rank (inherited s i) = 1
rank (top_inherited i) = 0
rank (tree_of k) = 0

module _ (w : World) (named : IsNamed w) (part : Part) (p : ℕ) where
  pub from_top : {a : ℕ} {y : Vertex} → HasEdgeIn w part p (top_synthesized a) y
      → HasRuleIn w part p (top_synthesized a) ⊎ (y ≡ synthesized (made forward) a)
  from_top (by_rule {e = e} r reads) = inl (e, r)
  from_top (by_copy_up at free f) = inr refl

  pub from_syn : {s : Step} {a : ℕ} {y : Vertex} → HasEdgeIn w part p (synthesized s a) y
      → ((i m : ℕ) × IsBelowIn w part p s m × Contains (w.needs m a) i × (y ≡ inherited s i)) ⊎ ((k : Made) × (s ≡ made k) × (y ≡ tree_of k))
  from_syn {s} {a} (by_rule {e = e} r reads) = absurd (named.writes_may r.0 p (synthesized s a) e r.2)
  from_syn (by_flow_type {i = i} {m = m} b at c) = inl (i, m, b, c, refl)
  from_syn (by_tree {k = k} b at) = inr (k, refl, refl)

  pub from_inh : {s : Step} {i : ℕ} {y : Vertex} → HasEdgeIn w part p (inherited s i) y
      → HasRuleIn w part p (inherited s i) ⊎ (y ≡ top_inherited i)
  from_inh (by_rule {e = e} r reads) = inl (e, r)
  from_inh (by_copy_down at free f) = inr refl

  pub from_top_inh : {i : ℕ} {y : Vertex} → HasEdgeIn w part p (top_inherited i) y → ⊥
  from_top_inh {i} (by_rule {e = e} r reads) = named.writes_may r.0 p (top_inherited i) e r.2

  pub from_tree_of : {k : Made} {y : Vertex} → HasEdgeIn w part p (tree_of k) y → HasRuleIn w part p (tree_of k)
  from_tree_of (by_rule {e = e} r reads) = (e, r)

  down : {v x : Vertex} → HasEdgeIn w part p v x → (rank x < rank v) ⊎ HasRuleIn w part p v
  down (by_rule {e = e} r reads) = inr (e, r)
  down (by_flow_type b at c) = inl (omega arith)
  down (by_tree b at) = inl (omega arith)
  down (by_copy_up at free f) = inl (omega arith)
  down (by_copy_down at free f) = inl (omega arith)

  -- a walk leads down, or goes through a vertex that has a rule
  pub passes : {v x : Vertex} → Leads (HasEdgeIn w part p) v x
      → (rank x < rank v) ⊎ ((y : Vertex) × HasRuleIn w part p y × Walks (HasEdgeIn w part p) v y × Leads (HasEdgeIn w part p) y x)
  passes (one {v = v} e) = elim (down e) [ inl lt ↦ inl lt | inr d ↦ inr (v, d, nil, one e) ]
  passes (more {w = y} s e) = elim (passes s) [
    | inl lt ↦ elim (down e) [ inl below ↦ inl (omega (arith, lt, below)) | inr d ↦ inr (y, d, still s, one e) ]
    | inr z ↦ inr (z.0, z.1, z.2, more z.3 e)
  ]
