-- The edges that productions make.
use Rattle.std.proofs.Common.{◌≡◌, ℕ, ◌+◌, ◌<◌, ◌≤◌, ◌⊎◌, zero, suc, Bool, List, [], ◌∷◌, ◌++◌, length, get_or, sym, ap, subst, inl, inr}
use Rattle.std.proofs.Common.{arith}
use Rattle.std.specs.Prelude.{All, Contains, ◌↔◌}
use Rattle.std.proofs.lemmas.Bool.{cases_lt}
use Rattle.std.proofs.lemmas.List.Elements.{Contains-append_left, Contains-append_right, Contains-append_cases, Contains-get_or}
use Rattle.std.proofs.lemmas.List.Elements.{All-contains}
use Rattle.wb_base.specs.declared.symbol.Symbol.{Symbol}
use Rattle.wb_base.specs.declared.symbol.Symbol.TheVariants.{Terminal, Nonterminal}
use Rattle.wb_base.specs.Grammar.{GrammarView, IsGrammar, IsSymbolBelow}
use Rattle.wb_graph.specs.Graphs.{Edge, IsEdgeBelow}
use Rattle.wb_grammar_theory.specs.Productions.{IsProduction}
use Rattle.wb_grammar_theory.proofs.ProductionLemmas.{production_once, production_within, production_below}
use Rattle.wb_grammar.specs.declared.occurrence.Occurrence.{Occurrence}
use Rattle.wb_grammar.specs.Inner.Edges.{IsPlaced, IsEdgeBy, AreEdges, edges_of}
use Rattle.wb_grammar.proofs.OccurrenceLemmas.{placed_within}

edge_cases : (e : Edge) (es : List Edge) (x : Edge) → Contains (e ∷ es) x → (e ≡ x) ⊎ Contains es x
edge_cases e es x (zero, lt, is) = inl is
edge_cases e es x (suc k, lt, is) = inr (k, omega arith, is)

symbol_cases : (y : Symbol) (ys : List Symbol) (x : Symbol) → Contains (y ∷ ys) x → (y ≡ x) ⊎ Contains ys x
symbol_cases y ys x (zero, lt, is) = inl is
symbol_cases y ys x (suc k, lt, is) = inr (k, omega arith, is)

symbol_later : (y : Symbol) (ys : List Symbol) (x : Symbol) → Contains ys x → Contains (y ∷ ys) x
symbol_later y ys x (k, lt, is) = (suc k, omega arith, is)

-- the edges of one left side
pub edges_of_there : (left : ℕ) (w : List Symbol) (a b : ℕ) → Contains (edges_of left w) (a, b) → (left ≡ a) × Contains w (Nonterminal b)
edges_of_there left [] a b (k, lt, is) = absurd (omega arith)
edges_of_there left (Terminal t ∷ w) a b h = let r = edges_of_there left w a b h in (r.0, symbol_later (Terminal t) w (Nonterminal b) r.1)
edges_of_there left (Nonterminal c ∷ w) a b h = elim (edge_cases (left, c) (edges_of left w) (a, b) h) [
  | inl first ↦ (ap (λ (e : Edge). e.0) first, (0, omega arith, ap (λ (e : Edge). Nonterminal e.1) first))
  | inr rest ↦ (let r = edges_of_there left w a b rest in (r.0, symbol_later (Nonterminal c) w (Nonterminal b) r.1))
]

pub edges_of_back : (left : ℕ) (w : List Symbol) (b : ℕ) → Contains w (Nonterminal b) → Contains (edges_of left w) (left, b)
edges_of_back left [] b (k, lt, is) = absurd (omega arith)
edges_of_back left (Terminal t ∷ w) b h = elim (symbol_cases (Terminal t) w (Nonterminal b) h) [
  | inl first ↦ (cc)
  | inr rest ↦ edges_of_back left w b rest
]
edges_of_back left (Nonterminal c ∷ w) b h = elim (symbol_cases (Nonterminal c) w (Nonterminal b) h) [
  | inl first ↦ (0, omega arith, (let e : c ≡ b = cc in ap (λ z. same_left left z) e))
  | inr rest ↦ (let (k, lt, is) = edges_of_back left w b rest in (suc k, omega arith, is))
]
  where
    same_left : ℕ → ℕ → Edge
    same_left left z = (left, z)

-- the edges by the productions up to one
pub record EdgesBefore (occurrence : Occurrence) (g : GrammarView) (nullable : List Bool) (edges : List Edge) (limit : ℕ) : Type 0 where
  pub sound : (a b : ℕ) → Contains edges (a, b) → IsEdgeBy occurrence g nullable a b
  pub complete : (a b : ℕ) (e : IsEdgeBy occurrence g nullable a b) → e.p < limit → Contains edges (a, b)

pub edges_start : (occurrence : Occurrence) (g : GrammarView) (nullable : List Bool) → EdgesBefore occurrence g nullable [] 0
edges_start occurrence g nullable = record { sound = λ a b (k, lt, is). absurd (omega arith); complete = λ a b e lt. absurd (omega arith) }

pub edges_more : (occurrence : Occurrence) (g : GrammarView) (nullable : List Bool) (edges : List Edge) (p left : ℕ)
    (right symbols : List Symbol) → IsProduction g p left right →
    ((x : Symbol) → Contains symbols x ↔ IsPlaced occurrence nullable right x) → EdgesBefore occurrence g nullable edges p →
    EdgesBefore occurrence g nullable (edges ++ edges_of left symbols) (p + 1)
edges_more occurrence g nullable edges p left right symbols rule placed before = record { sound = sound; complete = complete }
  where
    sound : (a b : ℕ) → Contains (edges ++ edges_of left symbols) (a, b) → IsEdgeBy occurrence g nullable a b
    sound a b h = elim (Contains-append_cases edges (edges_of left symbols) (a, b) h) [
      | inl old ↦ before.sound a b old
      | inr new ↦
          let r = edges_of_there left symbols a b new in
          record { p = p; right = right; rule = subst (λ z. IsProduction g p z right) r.0 rule; placed = (placed (Nonterminal b)).0 r.1 }
    ]

    complete : (a b : ℕ) (e : IsEdgeBy occurrence g nullable a b) → e.p < p + 1 → Contains (edges ++ edges_of left symbols) (a, b)
    complete a b e lt = elim (cases_lt e.p p) [
      | inl old ↦ Contains-append_left edges (edges_of left symbols) (a, b) (before.complete a b e old)
      | inr new ↦
          let same : e.p ≡ p = omega arith in
          let r = production_once g p a left e.right right (subst (λ z. IsProduction g z a e.right) same e.rule) rule in
          let there : Contains symbols (Nonterminal b) = (placed (Nonterminal b)).1
          (subst (λ z. IsPlaced occurrence nullable z (Nonterminal b)) r.1 e.placed) in
          Contains-append_right edges (edges_of left symbols) (a, b)
          (subst (λ z. Contains (edges_of left symbols) (z, b)) (sym r.0) (edges_of_back left symbols b there))
    ]

pub edges_exact : (occurrence : Occurrence) (g : GrammarView) (nullable : List Bool) (edges : List Edge) (limit : ℕ) →
    length g.productions ≤ limit → EdgesBefore occurrence g nullable edges limit → AreEdges occurrence g nullable edges
edges_exact occurrence g nullable edges limit le are a b =
    (are.sound a b, λ e. are.complete a b e (let lt : e.p < length g.productions = production_within g e.p a e.right e.rule in omega arith))

edge_below : (occurrence : Occurrence) (g : GrammarView) (nullable : List Bool) (a b : ℕ) → IsGrammar g →
    IsEdgeBy occurrence g nullable a b → IsEdgeBelow g.nonterminals (a, b)
edge_below occurrence g nullable a b ok e =
    let below = production_below g e.p a e.right ok e.rule in (
      below.left,
      All-contains (IsSymbolBelow g.terminals g.nonterminals) e.right (Nonterminal b) below.right
          (placed_within e.right e.placed.before e.placed.after (Nonterminal b) e.placed.is),
    )

pub edges_below : (occurrence : Occurrence) (g : GrammarView) (nullable : List Bool) (edges : List Edge) → IsGrammar g →
    AreEdges occurrence g nullable edges → All (IsEdgeBelow g.nonterminals) edges
edges_below occurrence g nullable edges ok are k d lt =
    let e : Edge = get_or edges k d in
    edge_below occurrence g nullable e.0 e.1 ok ((are e.0 e.1).0 (Contains-get_or edges k d lt))
