-- Places of nonterminals in right sides, and the edges between nonterminals that they make.
use Rattle.std.specs.Prelude.{◌≡◌, ◌≢◌, ◌↔◌, ℕ, suc, Bool, false, List, [], ◌∷◌, ◌++◌, All, Contains}
use Rattle.wb_base.specs.declared.symbol.Symbol.{Symbol}
use Rattle.wb_base.specs.declared.symbol.Symbol.TheVariants.{Terminal, Nonterminal}
use Rattle.wb_base.specs.Grammar.{GrammarView}
use Rattle.wb_grammar_theory.specs.Productions.{IsProduction}
use Rattle.wb_grammar.specs.Inner.LeastSets.{Holds}
use Rattle.wb_grammar.specs.declared.occurrence.Occurrence.{Occurrence}
use Rattle.wb_grammar.specs.declared.occurrence.Occurrence.TheVariants as variants

-- the places of a right side that count, by what is before and after them: all; left corners, before which all derives the empty text;
-- left corners before which there is a symbol; and those beside which all derives the empty text
abbrev pub Fits : Occurrence → List Bool → List Symbol → List Symbol → Type 0
Fits variants.Any nullable before after = Unit {0}
Fits variants.LeftCorner nullable before after = All (Holds false nullable) before
Fits variants.HiddenLeft nullable before after = All (Holds false nullable) before × (before ≢ [])
Fits variants.Unit nullable before after = All (Holds false nullable) before × All (Holds false nullable) after

-- the symbol is at such a place
pub record IsPlaced (occurrence : Occurrence) (nullable : List Bool) (symbols : List Symbol) (x : Symbol) : Type 0 where
  pub before : List Symbol
  pub after : List Symbol
  pub is : symbols ≡ before ++ x ∷ after
  pub fits : Fits occurrence nullable before after

-- a production leads from its left side to the nonterminal, which is at such a place of its right side
pub record IsEdgeBy (occurrence : Occurrence) (g : GrammarView) (nullable : List Bool) (a b : ℕ) : Type 0 where
  pub p : ℕ
  pub right : List Symbol
  pub rule : IsProduction g p a right
  pub placed : IsPlaced occurrence nullable right (Nonterminal b)

-- the edges are those of such places
abbrev pub AreEdges : Occurrence → GrammarView → List Bool → List (ℕ × ℕ) → Type 0
AreEdges occurrence g nullable edges = (a b : ℕ) → Contains edges (a, b) ↔ IsEdgeBy occurrence g nullable a b

-- an edge from the left side to each nonterminal among the symbols
abbrev pub edges_of : ℕ → List Symbol → List (ℕ × ℕ)
edges_of left [] = []
edges_of left (Terminal t ∷ symbols) = edges_of left symbols
edges_of left (Nonterminal b ∷ symbols) = (left, b) ∷ edges_of left symbols

-- so many symbols at the beginning are held by the set, and the one after them, if there is one, isn't
pub data IsLeading (nullable : List Bool) : List Symbol → ℕ → Type 0 where
  over : IsLeading nullable [] 0
  stops : {x : Symbol} {w : List Symbol} → ¬ Holds false nullable x → IsLeading nullable (x ∷ w) 0
  goes_on : {x : Symbol} {w : List Symbol} {count : ℕ} → Holds false nullable x → IsLeading nullable w count →
      IsLeading nullable (x ∷ w) (suc count)
