-- Nonterminals that productions generate from below: those that derive the empty text, and those that derive some text.
use Rattle.std.specs.Prelude.{◌≡◌, ◌<◌, ℕ, Bool, true, List, [], ◌∷◌, length, All, ◌↔◌, take, slice_get, Some}
use Rattle.wb_base.specs.declared.symbol.Symbol.{Symbol}
use Rattle.wb_base.specs.declared.symbol.Symbol.TheVariants.{Terminal, Nonterminal}
use Rattle.wb_base.specs.Grammar.{GrammarView}
use Rattle.wb_termset.specs.Sets.{IsMember}
use Rattle.wb_grammar_theory.specs.Productions.{IsProduction}

-- each symbol is generated: a terminal where terminals may be, and a nonterminal by a production whose right side is generated
pub data Generates (g : GrammarView) (terminals : Bool) : List Symbol → Type 0 where
  nothing : Generates g terminals []
  terminal : (t : ℕ) {w : List Symbol} → terminals ≡ true → Generates g terminals w → Generates g terminals (Terminal t ∷ w)
  nonterminal : (p a : ℕ) (right : List Symbol) {w : List Symbol} → IsProduction g p a right → Generates g terminals right →
      Generates g terminals w → Generates g terminals (Nonterminal a ∷ w)

-- the set holds the symbol: a terminal where terminals may be, and a nonterminal that is a member
abbrev pub Holds : Bool → List Bool → Symbol → Type 0
Holds terminals set (Terminal t) = terminals ≡ true
Holds terminals set (Nonterminal a) = IsMember set a

-- the symbol is a terminal, or a nonterminal below the count
abbrev pub IsKnown : ℕ → Symbol → Type 0
IsKnown count (Terminal t) = Unit {0}
IsKnown count (Nonterminal a) = a < count

-- each member is generated
abbrev pub AreGenerated : GrammarView → Bool → List Bool → Type 0
AreGenerated g terminals set = (a : ℕ) → IsMember set a → Generates g terminals (Nonterminal a ∷ [])

-- where the set holds the right side of the production, its left side is a member
abbrev pub IsClosedAt : GrammarView → Bool → List Bool → ℕ → Type 0
IsClosedAt g terminals set p = (a : ℕ) (right : List Symbol) → IsProduction g p a right → All (Holds terminals set) right → IsMember set a

-- the set has the nonterminals that are generated
pub record IsLeastSet (g : GrammarView) (terminals : Bool) (set : List Bool) : Type 0 where
  pub len : length set ≡ g.nonterminals
  pub each : (a : ℕ) → IsMember set a ↔ Generates g terminals (Nonterminal a ∷ [])

-- the symbol at the place is the first that the set doesn't hold
pub record IsFirstMissing (terminals : Bool) (set : List Bool) (symbols : List Symbol) (place : ℕ) : Type 0 where
  pub within : place < length symbols
  pub before : All (Holds terminals set) (take place symbols)
  pub missing : (x : Symbol) → slice_get symbols place ≡ Some x → ¬ Holds terminals set x
