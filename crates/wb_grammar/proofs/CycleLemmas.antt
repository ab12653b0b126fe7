-- Unit cycles by an order or a cycle of the edges to nonterminals beside which all derives the empty text.
use Rattle.std.proofs.Common.{◌≡◌, ℕ, ◌+◌, ◌-◌, ◌<◌, Bool, true, false, List, [], ◌∷◌, ◌++◌, length, Some, refl, subst, inl, inr}
use Rattle.std.proofs.Common.{arith}
use Rattle.std.specs.Prelude.{All, slice_get}
use Rattle.std.proofs.lemmas.List.Elements.{All-head, All-tail, All-cons, All-nil}
use Rattle.wb_base.specs.declared.symbol.Symbol.{Symbol}
use Rattle.wb_base.specs.declared.symbol.Symbol.TheVariants.{Terminal, Nonterminal}
use Rattle.wb_base.specs.Grammar.{GrammarView, IsGrammar}
use Rattle.wb_graph.specs.Graphs.{Edge, IsEdge}
use Rattle.wb_graph.specs.Orders.{IsOrder, IsCycle}
use Rattle.wb_grammar_theory.specs.Productions.{IsProduction}
use Rattle.wb_grammar_theory.specs.Derives.{Derives, done}
use Rattle.wb_grammar_theory.specs.Cycles.{IsUnitProduction, IsUnitCycle, DerivesAlone, HasNoUnitCycle, IsFollowedBy, IsCycleOf}
use Rattle.wb_grammar_theory.specs.Walks.{Walk, one, more}
use Rattle.wb_grammar_theory.proofs.DerivesLemmas.{Derives-append, Nullable-parts}
use Rattle.wb_grammar_theory.proofs.UnitLemmas.{unit_cycle_is, production_alone}
use Rattle.wb_grammar_theory.proofs.ProductionLemmas.{production_below}
use Rattle.wb_grammar.specs.Inner.LeastSets.{Holds}
use Rattle.wb_grammar.specs.Facts.{IsNullableSet}
use Rattle.wb_grammar.specs.declared.occurrence.Occurrence.TheVariants.{Unit}
use Rattle.wb_grammar.specs.Inner.Edges.{IsEdgeBy, AreEdges}
use Rattle.wb_lemmas.proofs.Members.{place_of}

-- what the set of the nullable nonterminals holds derives the empty text
pub held_empty : (g : GrammarView) (s : List Bool) → IsNullableSet g s → (w : List Symbol) → All (Holds false s) w → Derives g w []
held_empty g s set [] all = done
held_empty g s set (Terminal t ∷ w) all = (let bad : false ≡ true = All-head (Holds false s) (Terminal t) w all in cc)
held_empty g s set (Nonterminal a ∷ w) all =
    Derives-append ((set.each a).0 (All-head (Holds false s) (Nonterminal a) w all))
    (held_empty g s set w (All-tail (Holds false s) (Nonterminal a) w all))

-- and the other way round
pub empty_held : (g : GrammarView) (s : List Bool) → IsNullableSet g s → (w : List Symbol) → Derives g w [] → All (Holds false s) w
empty_held g s set [] r = All-nil (Holds false s)
empty_held g s set (Terminal t ∷ w) r = elim r [ ]
empty_held g s set (Nonterminal a ∷ w) r =
    let parts = Nullable-parts (Nonterminal a) w r in
    All-cons (Holds false s) (Nonterminal a) w ((set.each a).1 parts.head) (empty_held g s set w parts.tail)

-- the edges are unit rules
pub edge_unit : (g : GrammarView) (s : List Bool) → IsNullableSet g s → (a b : ℕ) → IsEdgeBy Unit g s a b → IsUnitProduction g a b
edge_unit g s set a b e = record {
  p = e.p;
  before = e.placed.before;
  after = e.placed.after;
  rule = subst (IsProduction g e.p a) e.placed.is e.rule;
  before_empty = held_empty g s set e.placed.before e.placed.fits.0;
  after_empty = held_empty g s set e.placed.after e.placed.fits.1;
}

pub unit_edge : (g : GrammarView) (s : List Bool) → IsNullableSet g s → (a b : ℕ) → IsUnitProduction g a b → IsEdgeBy Unit g s a b
unit_edge g s set a b u = record {
  p = u.p;
  right = u.before ++ Nonterminal b ∷ u.after;
  rule = u.rule;
  placed = record {
    before = u.before;
    after = u.after;
    is = refl;
    fits = (empty_held g s set u.before u.before_empty, empty_held g s set u.after u.after_empty);
  };
}

-- along a walk places fall
walk_falls : (g : GrammarView) (s : List Bool) → IsNullableSet g s → (count : ℕ) (edges : List Edge) (order : List ℕ) →
    AreEdges Unit g s edges → IsOrder count edges order → {a b : ℕ} → Walk (IsUnitProduction g) a b → (i : ℕ) → slice_get order i ≡ Some a →
    (j : ℕ) × (j < i) × (slice_get order j ≡ Some b)
walk_falls g s set count edges order are is (one {a} {b} u) i at = is.after a b i ((are a b).1 (unit_edge g s set a b u)) at
walk_falls g s set count edges order are is (more {a} {b} {c} u w) i at =
    let (j, lt, at_b) = is.after a b i ((are a b).1 (unit_edge g s set a b u)) at in
    let (k, lt', at_c) = walk_falls g s set count edges order are is w j at_b in
    (k, omega arith, at_c)

-- with an order there is no unit cycle
pub order_no_cycle : (g : GrammarView) (s : List Bool) (edges : List Edge) (order : List ℕ) → IsGrammar g → IsNullableSet g s →
    AreEdges Unit g s edges → IsOrder g.nonterminals edges order → HasNoUnitCycle g
order_no_cycle g s edges order ok set are is a (p, right, rule, r) =
    let below : a < g.nonterminals = (production_below g p a right ok rule).left in
    let (i, at) = place_of order a (is.every a below) in
    let (j, lt, at_j) = walk_falls g s set g.nonterminals edges order are is ((unit_cycle_is g a).0 (p, right, rule, r)) i at in
    let same : j ≡ i = is.once a j i at_j at in
    omega arith

-- a cycle of edges is a cycle
pub cycle_of_edges : (edges : List Edge) (list : List ℕ) (R : ℕ → ℕ → Type 0) → ((a b : ℕ) → IsEdge edges a b → R a b) →
    IsCycle edges list → IsCycleOf R list
cycle_of_edges edges list R sound cycle = record { nonempty = cycle.nonempty; each = each }
  where
    each : (a b : ℕ) → IsFollowedBy list a b → R a b
    each a b f = elim f.other [
      | inl next ↦ sound a b (cycle.next f.place a b f.one next)
      | inr around ↦
          let e : f.place ≡ length list - 1 = (let h : f.place + 1 ≡ length list = around.0 in omega arith) in
          sound a b (cycle.closes a b (subst (λ n. slice_get list n ≡ Some a) e f.one) around.1)
    ]

-- of nonterminals that derive the next alone
pub unit_cycle_of_edges : (g : GrammarView) (s : List Bool) (edges : List Edge) (list : List ℕ) → IsNullableSet g s →
    AreEdges Unit g s edges → IsCycle edges list → IsUnitCycle g list
unit_cycle_of_edges g s edges list set are cycle = cycle_of_edges edges list (DerivesAlone g)
    (λ a b edge. production_alone (edge_unit g s set a b ((are a b).0 edge))) cycle
