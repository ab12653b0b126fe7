-- Which terminals can begin what symbols derive, by a set for each nonterminal.
use Rattle.std.specs.Prelude.{◌≡◌, ℕ, ◌<◌, ◌⊎◌, Bool, List, [], ◌∷◌, length}
use Rattle.wb_base.specs.declared.symbol.Symbol.{Symbol}
use Rattle.wb_base.specs.declared.symbol.Symbol.TheVariants.{Terminal, Nonterminal}
use Rattle.wb_base.specs.Grammar.{GrammarView}
use Rattle.wb_termset.specs.Sets.{IsMember, IsSubset, Grew}
use Rattle.wb_grammar_theory.specs.Productions.{IsProduction}
use Rattle.wb_grammar_theory.specs.Derives.{IsFirst}
use Rattle.wb_grammar.specs.Facts.{set_of}

-- the terminal can begin the symbols: it is the first of them, or a member of the set of the first, or can begin the rest where the first
-- is nullable
abbrev pub CanBegin : List Bool → List (List Bool) → List Symbol → ℕ → Type 0
CanBegin nullable sets [] t = ⊥
CanBegin nullable sets (Terminal u ∷ w) t = t ≡ u
CanBegin nullable sets (Nonterminal b ∷ w) t = IsMember (set_of sets b) t ⊎ (IsMember nullable b × CanBegin nullable sets w t)

-- each member of each set is in First
abbrev pub AreFirsts : GrammarView → List (List Bool) → Type 0
AreFirsts g sets = (a t : ℕ) → IsMember (set_of sets a) t → IsFirst g (Nonterminal a ∷ []) t

-- the production adds nothing
abbrev pub IsFirstClosedAt : GrammarView → List Bool → List (List Bool) → ℕ → Type 0
IsFirstClosedAt g nullable sets p = (a : ℕ) (right : List Symbol) → IsProduction g p a right → (t : ℕ) → CanBegin nullable sets right t →
    IsMember (set_of sets a) t

-- every set is within the other of its number
abbrev pub SetsWithin : List (List Bool) → List (List Bool) → Type 0
SetsWithin old new = (a : ℕ) → IsSubset (set_of old a) (set_of new a)

-- some set has a new member
abbrev pub SetsGrew : List (List Bool) → List (List Bool) → Type 0
SetsGrew old new = (a : ℕ) × (a < length old) × Grew (set_of old a) (set_of new a)
