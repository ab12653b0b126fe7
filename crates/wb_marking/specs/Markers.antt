-- Markers, and where they are in the grammar of a host with an extension.
use Rattle.std.specs.Prelude.{◌≡◌, ◌≢◌, ℕ, List, Some, Contains, slice_get}
use Rattle.wb_base.specs.declared.symbol.Symbol.{Symbol}
use Rattle.wb_base.specs.declared.symbol.Symbol.TheVariants as symbol
use Rattle.wb_base.specs.Grammar.{GrammarView}
use Rattle.wb_grammar_theory.specs.Productions.{IsProduction}
use Rattle.wb_syntax_resolved.specs.declared.production.Production.{Production}
use Rattle.wb_syntax_resolved.specs.declared.resolved.ResolvedParts.{ResolvedParts}
use Rattle.wb_syntax_resolved.specs.declared.terminal.Terminal.{Terminal}
use Rattle.wb_syntax_resolved.specs.declared.terminal.TerminalKind.TheVariants.{Marking}
use Rattle.wb_syntax_resolved.specs.Resolved.{IsResolved}
use Rattle.wb_syntax_resolved.specs.Visible.{SeesNonterminal}

-- the parts are a resolved specification's, which has this grammar
pub record HasGrammar (r : ResolvedParts) (g : GrammarView) : Type 0 where
  pub resolved : IsResolved r
  pub grammar : r.grammar ≡ Some g

-- there is a marker of this number
pub record IsMarker (r : ResolvedParts) (number : ℕ) : Type 0 where
  pub terminal : Terminal
  pub is : slice_get r.terminals number ≡ Some terminal
  pub marking : terminal.kind ≡ Marking

-- no marker is among the symbols
abbrev pub HasNoMarker : ResolvedParts → List Symbol → Type 0
HasNoMarker r symbols = (marker : ℕ) → IsMarker r marker → ¬ Contains symbols (symbol.Terminal marker)

-- the nonterminal is the host's
abbrev pub IsHosts : ResolvedParts → ℕ → Type 0
IsHosts r nonterminal = SeesNonterminal r.attributes 0 nonterminal

-- there is a production of this number, and it isn't the host's
pub record IsExtensions (r : ResolvedParts) (number : ℕ) : Type 0 where
  pub production : Production
  pub is : slice_get r.attributes.productions number ≡ Some production
  pub owner : production.owner ≢ 0

-- the terminal is at this place of the production's right side, from 0 on
pub record IsAt (g : GrammarView) (terminal number place : ℕ) : Type 0 where
  pub left : ℕ
  pub right : List Symbol
  pub production : IsProduction g number left right
  pub at : slice_get right place ≡ Some (symbol.Terminal terminal)
