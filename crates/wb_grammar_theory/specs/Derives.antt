-- What a grammar derives.
use Rattle.std.specs.Prelude.{◌≡◌, ℕ, List, [], ◌∷◌, ◌++◌}
use Rattle.wb_base.specs.declared.symbol.Symbol.{Symbol}
use Rattle.wb_base.specs.declared.symbol.Symbol.TheVariants.{Terminal, Nonterminal}
use Rattle.wb_base.specs.Grammar.{GrammarView}
use Rattle.wb_grammar_theory.specs.Productions.{IsProduction}

-- the symbols w derive the symbols v: each symbol of w stays, or, as a nonterminal, becomes what the right side of one of its productions
-- derives
pub data Derives (g : GrammarView) : List Symbol → List Symbol → Type 0 where
  done : Derives g [] []
  keep : (x : Symbol) {w v : List Symbol} → Derives g w v → Derives g (x ∷ w) (x ∷ v)
  expand : (p a : ℕ) (right u v : List Symbol) {w x : List Symbol} → IsProduction g p a right → Derives g right u → Derives g w v →
      x ≡ u ++ v → Derives g (Nonterminal a ∷ w) x

-- the nonterminal derives the empty text
abbrev pub IsNullable : GrammarView → ℕ → Type 0
IsNullable g a = Derives g (Nonterminal a ∷ []) []

-- the symbols w derive symbols that begin with the terminal t
abbrev pub IsFirst : GrammarView → List Symbol → ℕ → Type 0
IsFirst g w t = (v : List Symbol) × Derives g w (Terminal t ∷ v)

-- the symbols are terminals alone
pub data IsText : List Symbol → Type 0 where
  empty : IsText []
  next : (t : ℕ) {v : List Symbol} → IsText v → IsText (Terminal t ∷ v)

-- the textbook's derivation: a number of steps, each of which puts the right side of a production in the place of one nonterminal
pub data Steps (g : GrammarView) : List Symbol → List Symbol → Type 0 where
  stop : {w : List Symbol} → Steps g w w
  step : (before after : List Symbol) (p a : ℕ) (right : List Symbol) {w v : List Symbol} → IsProduction g p a right →
      w ≡ before ++ Nonterminal a ∷ after → Steps g (before ++ right ++ after) v → Steps g w v

-- a derivation of one step or more
abbrev pub DerivesInSteps : GrammarView → List Symbol → List Symbol → Type 0
DerivesInSteps g w v =
    (before after right : List Symbol) × (p a : ℕ) × IsProduction g p a right × (w ≡ before ++ Nonterminal a ∷ after) ×
    Steps g (before ++ right ++ after) v
