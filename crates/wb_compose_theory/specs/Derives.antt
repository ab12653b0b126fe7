-- What a part of a world derives, and its reachable, productive and cyclic nonterminals.
use Rattle.std.specs.Prelude.{◌≡◌, ◌≢◌, ℕ, List, [], ◌∷◌, ◌++◌}
use Rattle.wb_base.specs.declared.symbol.Symbol.{Symbol}
use Rattle.wb_base.specs.declared.symbol.Symbol.TheVariants.{Terminal, Nonterminal}
use Rattle.wb_grammar_theory.specs.Derives.{IsText}
use Rattle.wb_compose_theory.specs.Worlds.{World, Part, IsProductionIn, IsSymbolIn}

-- the symbols a derive the symbols b: each symbol of a stays, or, as a nonterminal, becomes what the right side of one of its productions
-- in the part derives
pub data DerivesIn (w : World) (part : Part) : List Symbol → List Symbol → Type 0 where
  done : DerivesIn w part [] []
  keep : (x : Symbol) {a b : List Symbol} → DerivesIn w part a b → DerivesIn w part (x ∷ a) (x ∷ b)
  expand : (p b : ℕ) (u v : List Symbol) {a x : List Symbol} → IsProductionIn w part p → w.left p ≡ b → DerivesIn w part (w.right p) u →
      DerivesIn w part a v → x ≡ u ++ v → DerivesIn w part (Nonterminal b ∷ a) x

-- the symbols derive symbols that begin with the terminal
abbrev pub IsFirstIn : World → Part → List Symbol → ℕ → Type 0
IsFirstIn w part a t = (v : List Symbol) × DerivesIn w part a (Terminal t ∷ v)

-- the start derives symbols among which the nonterminal stands
abbrev pub IsReachableIn : World → Part → ℕ → Type 0
IsReachableIn w part a = (u v : List Symbol) × DerivesIn w part (Nonterminal w.start_symbol ∷ []) (u ++ Nonterminal a ∷ v)

-- the nonterminal derives some text of terminals
abbrev pub IsProductiveIn : World → Part → ℕ → Type 0
IsProductiveIn w part a = (v : List Symbol) × DerivesIn w part (Nonterminal a ∷ []) v × IsText v

-- every nonterminal of the part derives some text of terminals
abbrev pub AreProductiveIn : World → Part → Type 0
AreProductiveIn w part = (a : ℕ) → IsSymbolIn w part (Nonterminal a) → IsProductiveIn w part a

-- every nonterminal of the part is reachable from the start and derives some text of terminals
pub record IsReducedIn (w : World) (part : Part) : Type 0 where
  pub reachable : (a : ℕ) → IsSymbolIn w part (Nonterminal a) → IsReachableIn w part a
  pub productive : AreProductiveIn w part

-- the nonterminal derives itself in one or more steps
abbrev pub DerivesItselfIn : World → Part → ℕ → Type 0
DerivesItselfIn w part a = (p : ℕ) × IsProductionIn w part p × (w.left p ≡ a) × DerivesIn w part (w.right p) (Nonterminal a ∷ [])

-- the nonterminal derives `b A c` in one or more steps, where A is itself, and b is at least one symbol and derives the empty text
abbrev pub IsHiddenLeftRecursiveIn : World → Part → ℕ → Type 0
IsHiddenLeftRecursiveIn w part a =
    (p : ℕ) × (b c : List Symbol) × IsProductionIn w part p × (w.left p ≡ a) × DerivesIn w part (w.right p) (b ++ Nonterminal a ∷ c) ×
    (b ≢ []) × DerivesIn w part b []

-- no nonterminal derives itself in one or more steps
abbrev pub HasNoUnitCycleIn : World → Part → Type 0
HasNoUnitCycleIn w part = (a : ℕ) → ¬ DerivesItselfIn w part a

-- no nonterminal is hidden left recursive
abbrev pub HasNoHiddenLeftRecursionIn : World → Part → Type 0
HasNoHiddenLeftRecursionIn w part = (a : ℕ) → ¬ IsHiddenLeftRecursiveIn w part a
