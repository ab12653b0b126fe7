-- What composition reads off the rules on bridges: how right sides are made, and whose productions are.
use Rattle.std.specs.Prelude.{◌≡◌, ◌⊎◌, ℕ, List, ◌∷◌, Some, Contains, slice_get}
use Rattle.wb_base.specs.declared.symbol.Symbol.{Symbol}
use Rattle.wb_base.specs.declared.symbol.Symbol.TheVariants as symbol
use Rattle.wb_base.specs.Grammar.{GrammarView}
use Rattle.wb_grammar_theory.specs.Productions.{IsProduction}
use Rattle.wb_syntax_resolved.specs.declared.attributes.Nonterminal.{Nonterminal}
use Rattle.wb_syntax_resolved.specs.declared.production.Production.{Production}
use Rattle.wb_syntax_resolved.specs.declared.resolved.ResolvedParts.{ResolvedParts}
use Rattle.wb_syntax_resolved.specs.declared.terminal.Terminal.{Terminal}
use Rattle.wb_marking.specs.Markers.{IsMarker, HasNoMarker, IsHosts}

-- the marker and the production have one owner
pub record IsOwnMarker (r : ResolvedParts) (marker number : ℕ) : Type 0 where
  pub terminal : Terminal
  pub terminal_is : slice_get r.terminals marker ≡ Some terminal
  pub production : Production
  pub production_is : slice_get r.attributes.productions number ≡ Some production
  pub one : terminal.owner ≡ production.owner

-- the production and its left side have one owner
pub record IsOnOwn (r : ResolvedParts) (number left : ℕ) : Type 0 where
  pub production : Production
  pub production_is : slice_get r.attributes.productions number ≡ Some production
  pub nonterminal : Nonterminal
  pub nonterminal_is : slice_get r.attributes.nonterminals left ≡ Some nonterminal
  pub one : production.owner ≡ nonterminal.owner

-- the production is the marker's bridge: it is of the marker's owner, its left side is the host's and extensible, the marker begins it, and
-- no marker comes after
pub record IsBridge (r : ResolvedParts) (g : GrammarView) (marker number : ℕ) : Type 0 where
  pub is_marker : IsMarker r marker
  pub left : ℕ
  pub rest : List Symbol
  pub production : IsProduction g number left (symbol.Terminal marker ∷ rest)
  pub owner : IsOwnMarker r marker number
  pub host : IsHosts r left
  pub extensible : Contains r.extensible left
  pub bare : HasNoMarker r rest

-- each marker has exactly one bridge, each production is a bridge or has no marker, and one without marker is on a nonterminal of its owner
pub record IsMarked (r : ResolvedParts) (g : GrammarView) : Type 0 where
  pub bridge : (marker : ℕ) → IsMarker r marker → (number : ℕ) × IsBridge r g marker number
  pub one : (marker number other : ℕ) → IsBridge r g marker number → IsBridge r g marker other → number ≡ other
  pub shape : (number left : ℕ) (right : List Symbol) → IsProduction g number left right
      → HasNoMarker r right ⊎ ((marker : ℕ) × IsBridge r g marker number)
  pub source : (number left : ℕ) (right : List Symbol) → IsProduction g number left right → HasNoMarker r right → IsOnOwn r number left
