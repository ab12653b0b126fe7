-- What walks over the edges of all places reach is what the start reaches.
use Rattle.std.proofs.Common.{◌≡◌, ℕ, Bool, zero, suc, List, [], ◌∷◌, ◌++◌, refl, sym, subst, append_assoc, inl, inr, arith}
use Rattle.std.specs.Prelude.{Contains, ◌↔◌}
use Rattle.std.proofs.lemmas.List.Elements.{Contains-append_right, Contains-append_cases}
use Rattle.wb_base.specs.declared.symbol.Symbol.{Symbol}
use Rattle.wb_base.specs.declared.symbol.Symbol.TheVariants.{Nonterminal}
use Rattle.wb_base.specs.Grammar.{GrammarView}
use Rattle.wb_graph.specs.Graphs.{Edge, IsEdge, Walk, stay, step, IsReached}
use Rattle.wb_grammar_theory.specs.Derives.{Derives, done, keep, expand}
use Rattle.wb_grammar_theory.specs.Shape.{IsReachable}
use Rattle.wb_grammar_theory.proofs.DerivesLemmas.{Derives-same, Derives-append, Derives-then}
use Rattle.wb_grammar.specs.declared.occurrence.Occurrence.TheVariants.{Any}
use Rattle.wb_grammar.specs.Inner.Edges.{AreEdges}
use Rattle.wb_grammar.proofs.OccurrenceLemmas.{whole_is, contains_cases, contains_nil}

-- a walk with one more edge at the beginning
pub walk_from : {edges : List Edge} {u v w : ℕ} → IsEdge edges u v → Walk edges v w → Walk edges u w
walk_from {edges} {u} {v} edge (stay w same) = step u w (stay u refl) (subst (λ z. IsEdge edges u z) same edge)
walk_from edge (step x w walk last) = step x w (walk_from edge walk) last

-- the start derives symbols with what a walk leads to
walk_reaches : (g : GrammarView) (s : List Bool) (edges : List Edge) → AreEdges Any g s edges → {v : ℕ} → Walk edges g.start v →
    IsReachable g v
walk_reaches g s edges are (stay v same) = (
  [],
  [],
  subst (λ z. Derives g (Nonterminal g.start ∷ []) (Nonterminal z ∷ [])) same
      (Derives-same g (Nonterminal g.start ∷ [])),
)
walk_reaches g s edges are (step a b walk edge) =
    let (u, v, r) = walk_reaches g s edges are walk in
    let e = (are a b).0 edge in
    let p = e.placed in
    let inner : Derives g (Nonterminal a ∷ v) ((p.before ++ Nonterminal b ∷ p.after) ++ v) =
    expand e.p a e.right (p.before ++ Nonterminal b ∷ p.after) v e.rule (subst (λ z. Derives g e.right z) p.is (Derives-same g e.right))
    (Derives-same g v) refl in
    let whole : Derives g (u ++ Nonterminal a ∷ v) (u ++ ((p.before ++ Nonterminal b ∷ p.after) ++ v)) = Derives-append
    (Derives-same g u) inner in
    let flat : u ++ ((p.before ++ Nonterminal b ∷ p.after) ++ v) ≡ (u ++ p.before) ++ Nonterminal b ∷ (p.after ++ v) = simp append_assoc in
    (u ++ p.before, p.after ++ v, subst (Derives g (Nonterminal g.start ∷ [])) flat (Derives-then r whole))

-- a nonterminal of the symbols from which a walk leads on
record Origin (edges : List Edge) (w : List Symbol) (b : ℕ) : Type 0 where
  from : ℕ
  within : Contains w (Nonterminal from)
  walk : Walk edges from b

later_origin : (edges : List Edge) (x : Symbol) (w : List Symbol) (b : ℕ) → Origin edges w b → Origin edges (x ∷ w) b
later_origin edges x w b o = record {
  from = o.from;
  within = Contains-append_right (x ∷ []) w (Nonterminal o.from) o.within;
  walk = o.walk;
}

derives_walk : (g : GrammarView) (s : List Bool) (edges : List Edge) → AreEdges Any g s edges → {w x : List Symbol} → Derives g w x →
    (b : ℕ) → Contains x (Nonterminal b) → Origin edges w b
derives_walk g s edges are done b h = absurd (contains_nil (Nonterminal b) h)
derives_walk g s edges are (keep y {w} {v} r) b h = elim (contains_cases y v (Nonterminal b) h) [
  | inl first ↦ record { from = b; within = (0, omega arith, first); walk = stay b refl }
  | inr rest ↦ later_origin edges y w b (derives_walk g s edges are r b rest)
]
derives_walk g s edges are (expand p a right u v {w} {x} rule below rest is) b h = elim
    (Contains-append_cases u v (Nonterminal b) (subst (λ z. Contains z (Nonterminal b)) is h)) [
      | inl left ↦
          let o = derives_walk g s edges are below b left in
          let edge : IsEdge edges a o.from = (are a o.from).1 (record {
            p = p;
            right = right;
            rule = rule;
            placed =
                (whole_is s right (Nonterminal o.from)).0 o.within;
          }) in
          record { from = a; within = (0, omega arith, refl); walk = walk_from edge o.walk }
      | inr later ↦ later_origin edges (Nonterminal a) w b (derives_walk g s edges are rest b later)
    ]

-- the one nonterminal of a list of one
only_start : (start a : ℕ) → Contains (Nonterminal start ∷ []) (Nonterminal a) → start ≡ a
only_start start a h = elim (contains_cases (Nonterminal start) [] (Nonterminal a) h) [
  | inl first ↦ (cc)
  | inr rest ↦ absurd (contains_nil (Nonterminal a) rest)
]

-- reached is reachable
pub reached_is : (g : GrammarView) (s : List Bool) (edges : List Edge) → AreEdges Any g s edges → (v : ℕ) →
    IsReached edges (g.start ∷ []) v ↔ IsReachable g v
reached_is g s edges are v = (there, back)
  where
    one_start : (x : ℕ) → Contains (g.start ∷ []) x → x ≡ g.start
    one_start x (zero, lt, is) = sym is
    one_start x (suc k, lt, is) = absurd (omega arith)

    there : IsReached edges (g.start ∷ []) v → IsReachable g v
    there r = walk_reaches g s edges are (subst (λ z. Walk edges z v) (one_start r.start r.is_start) r.walk)

    back : IsReachable g v → IsReached edges (g.start ∷ []) v
    back (u, w, r) =
        let o = derives_walk g s edges are r v (Contains-append_right u (Nonterminal v ∷ w) (Nonterminal v) (0, omega arith, refl)) in
        record {
          start = g.start;
          is_start = (0, omega arith, refl);
          walk = subst (λ z. Walk edges z v) (sym (only_start g.start o.from o.within)) o.walk;
        }
