-- Who sees whom.
use Rattle.std.proofs.Common.{◌≡◌, ◌⊎◌, ◌∙◌, ℕ, zero, suc, IsTrue, refl, sym, subst, ap, inl, inr, arith}
use Rattle.wb_flow_theory.specs.Vertices.{made, Vertex, top_synthesized, top_inherited, synthesized, inherited, tree_of}
use Rattle.wb_syntax_resolved.specs.declared.attributes.Direction.{Direction}
use Rattle.wb_compose_theory_worlds.specs.Worlds.{Owner, host, extension, World, Part, alone, Has, Sees, step_owner, OccursIn, HasRuleIn}
use Rattle.wb_compose_theory_worlds.specs.Worlds.{IsVertexIn}
use Rattle.wb_compose_theory_worlds.specs.Named.{IsNamed}

pub sees_more : (o p q : Owner) → Sees o p → Sees p q → Sees o q
sees_more o host host s t = tt
sees_more o host (extension k) s t = absurd t
sees_more host (extension k) q s t = absurd s
sees_more (extension j) (extension k) q s t = subst (λ z. Has (alone z) q) s t

pub sees_itself : (o : Owner) → Sees o o
sees_itself host = tt
sees_itself (extension k) = refl

pub sees_same : (o p : Owner) → Sees o p → Sees p o → o ≡ p
sees_same host host s t = refl
sees_same host (extension k) s t = absurd s
sees_same (extension j) host s t = absurd t
sees_same (extension j) (extension k) s t = ap extension t

-- whom an owner sees, a part that has the owner has too
pub has_seen : (part : Part) (o q : Owner) → Has part o → Sees o q → Has part q
has_seen part o host h s = tt
has_seen part host (extension k) h s = absurd s
has_seen part (extension j) (extension k) h s = subst (λ z. Has part (extension z)) (sym s) h

module _ (w : World) (named : IsNamed w) where
  -- an owner that sees one of whose two names is the other's sees the other
  declarer_sees : (d : Direction) (o q : Owner) (m a : ℕ) → IsTrue (w.declares d o m a) → IsTrue (w.declares d q m a) → Sees o q
  declarer_sees d o q m a first second = elim (named.own d q m a second) [
    | inl h ↦ subst (λ z. Sees o z) h (named.nonterminal d o m a first)
    | inr h ↦ subst (λ z. Sees o z) h (named.attribute d o m a first)
  ]

  -- no occurrence is declared twice, by any two owners
  pub unique : (d : Direction) (o q : Owner) (m a : ℕ) → IsTrue (w.declares d o m a) → IsTrue (w.declares d q m a) → o ≡ q
  unique d o q m a first second = sees_same o q (declarer_sees d o q m a first second) (declarer_sees d q o m a second first)

-- a part inside another has no more
abbrev pub Inside : Part → Part → Type 0
Inside part other = (o : Owner) → Has part o → Has other o

pub occurs_more : (w : World) (d : Direction) (m a : ℕ) (part other : Part) → Inside part other → OccursIn w part d m a
    → OccursIn w other d m a
occurs_more w d m a part other more (o, h, declared) = (o, more o h, declared)

pub defined_more : (w : World) (p : ℕ) (v : Vertex) (part other : Part) → Inside part other → HasRuleIn w part p v → HasRuleIn w other p v
defined_more w p v part other more (e, r) = (e, (r.0, more r.0 r.1, r.2))

pub vertex_more : (w : World) (p : ℕ) (part other : Part) → Inside part other → (v : Vertex) → IsVertexIn w part p v
    → IsVertexIn w other p v
vertex_more w p part other more (top_synthesized a) (o, h, d) = (o, more o h, d)
vertex_more w p part other more (top_inherited i) (o, h, d) = (o, more o h, d)
vertex_more w p part other more (synthesized s a) (m, b, (o, h, d)) = (m, (b.0, more (step_owner w p s) b.1), (o, more o h, d))
vertex_more w p part other more (inherited s i) (m, b, (o, h, d)) = (m, (b.0, more (step_owner w p s) b.1), (o, more o h, d))
vertex_more w p part other more (tree_of k) (m, b) = (m, (b.0, more (step_owner w p (made k)) b.1))

-- whom two extensions see is the host's
pub apart : (j k : ℕ) (o : Owner) → (j ≡ k → ⊥) → Sees (extension j) o → Sees (extension k) o → o ≡ host
apart j k host ne s t = refl
apart j k (extension l) ne s t = absurd (ne (sym s ∙ t))

-- who sees two extensions sees one
pub one_seen : (j k : ℕ) (o : Owner) → Sees o (extension j) → Sees o (extension k) → j ≡ k
one_seen j k host s t = absurd s
one_seen j k (extension l) s t = s ∙ sym t

pub sees_extension : (o : Owner) (k : ℕ) → Sees o (extension k) → o ≡ extension k
sees_extension host k s = absurd s
sees_extension (extension l) k s = ap extension (sym s)

-- the owner of a production and that of an occurrence: one sees the other, or they are two extensions
pub data Meeting (o q : Owner) : Type 0 where
  first_sees : Sees o q → Meeting o q
  second_sees : Sees q o → Meeting o q
  strangers : (j k : ℕ) → o ≡ extension j → q ≡ extension k → (j ≡ k → ⊥) → Meeting o q

same_or : (j k : ℕ) → (j ≡ k) ⊎ (j ≡ k → ⊥)
same_or zero zero = inl refl
same_or zero (suc k) = inr (λ e. omega (arith, e))
same_or (suc j) zero = inr (λ e. omega (arith, e))
same_or (suc j) (suc k) = elim (same_or j k) [ inl e ↦ inl (ap suc e) | inr ne ↦ inr (λ e. ne (omega (arith, e))) ]

pub meeting : (o q : Owner) → Meeting o q
meeting host host = first_sees tt
meeting host (extension k) = second_sees tt
meeting (extension j) host = first_sees tt
meeting (extension j) (extension k) = elim (same_or j k) [ inl e ↦ second_sees e | inr ne ↦ strangers j k refl refl ne ]
