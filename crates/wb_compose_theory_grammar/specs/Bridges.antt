-- Extensions given by their grammar and by which of its terminals are markers.
use Rattle.std.specs.Prelude.{◌≡◌, ◌<◌, ◌≤◌, ℕ, suc, Bool, true, false, cond, eqb, IsTrue, Option, Some, None, List, [], ◌∷◌, Contains}
use Rattle.std.specs.Prelude.{length}
use Rattle.wb_base.specs.declared.symbol.Symbol.{Symbol}
use Rattle.wb_base.specs.declared.symbol.Symbol.TheVariants.{Terminal, Nonterminal}
use Rattle.wb_base.specs.Grammar.{GrammarView, Production}
use Rattle.wb_grammar_theory.specs.Productions.{IsProduction}
use Rattle.wb_compose_theory.specs.Marks.{Each}
use Rattle.wb_compose_theory.specs.Worlds.{Mark, bare, on}
use Rattle.wb_compose_theory_grammar.specs.Pieces.{Piece}

-- the symbols begin with the terminal
abbrev pub begins : ℕ → List Symbol → Bool
begins t [] = false
begins t (Terminal u ∷ rest) = eqb u t
begins t (Nonterminal a ∷ rest) = false

-- the number and the left side of the first production that the terminal begins, where the first of the list has this number
abbrev pub bridge_in_list : ℕ → ℕ → List Production → Option (ℕ × ℕ)
bridge_in_list p t [] = None
bridge_in_list p t (rule ∷ rules) = cond (begins t rule.1) (Some (p, rule.0)) (bridge_in_list (suc p) t rules)

-- the mark of a marker that begins this production, and the production's number
abbrev pub mark_by : Bool → Option (ℕ × ℕ) → Mark
mark_by true (Some (p, a)) = on a
mark_by _ _ = bare

abbrev pub number_by : Option (ℕ × ℕ) → ℕ
number_by None = 0
number_by (Some (p, a)) = p

-- the extension with this grammar and these markers
abbrev pub piece_of : GrammarView → (ℕ → Bool) → Piece
piece_of g is_marker = record {
  grammar = g;
  mark = λ t. mark_by (is_marker t) (bridge_in_list 0 t g.productions);
  bridge = λ t. number_by (bridge_in_list 0 t g.productions);
}

module _ (host : GrammarView) (extensible : List ℕ) (g : GrammarView) (is_marker : ℕ → Bool) where
  -- the symbol is no marker
  abbrev pub IsNoMarker : Symbol → Type 0
  IsNoMarker (Terminal t) = ¬ IsTrue (is_marker t)
  IsNoMarker (Nonterminal a) = Unit {0}

  -- the marker begins a production of the extension, whose left side is extensible
  pub record BeginsBridge (t : ℕ) : Type 0 where
    pub number : ℕ
    pub left : ℕ
    pub rest : List Symbol
    pub rule : IsProduction g number left (Terminal t ∷ rest)
    pub own : length host.productions ≤ number
    pub extensible_left : Contains extensible left

  -- the production has no marker and is on a nonterminal of the extension, or begins with a marker and has no other
  pub data HasShape (left : ℕ) (right : List Symbol) : Type 0 where
    unmarked : host.nonterminals ≤ left → Each IsNoMarker right → HasShape left right
    marked : (t : ℕ) (rest : List Symbol) → IsTrue (is_marker t) → right ≡ Terminal t ∷ rest → Each IsNoMarker rest → HasShape left right

  -- markers are the extension's terminals, each begins exactly one production, and no production has a marker elsewhere
  pub record AreMarkers : Type 0 where
    pub own : (t : ℕ) → IsTrue (is_marker t) → host.terminals ≤ t
    pub within : (t : ℕ) → IsTrue (is_marker t) → t < g.terminals
    pub bridge : (t : ℕ) → IsTrue (is_marker t) → BeginsBridge t
    pub once : (t p q a b : ℕ) (left right : List Symbol) → IsTrue (is_marker t) → IsProduction g p a (Terminal t ∷ left) →
        IsProduction g q b (Terminal t ∷ right) → p ≡ q
    pub shape : (p a : ℕ) (right : List Symbol) → length host.productions ≤ p → IsProduction g p a right → HasShape a right
