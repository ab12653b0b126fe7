-- What an extension may begin with its markers: bridges, which lead from the host's nonterminals into the extension.
use Rattle.std.specs.Prelude.{◌≡◌, ℕ, List, Contains}
use Rattle.wb_base.specs.declared.symbol.Symbol.{Symbol}
use Rattle.wb_base.specs.Grammar.{GrammarView}
use Rattle.wb_grammar_theory.specs.Productions.{IsProduction}
use Rattle.wb_syntax_resolved.specs.declared.resolved.ResolvedParts.{ResolvedParts}
use Rattle.wb_marking.specs.Markers.{IsMarker, IsHosts, IsExtensions, IsAt}

-- the production is an extension's, on a nonterminal of the host
pub record IsOnHost (r : ResolvedParts) (g : GrammarView) (number : ℕ) : Type 0 where
  pub left : ℕ
  pub right : List Symbol
  pub production : IsProduction g number left right
  pub extension : IsExtensions r number
  pub host : IsHosts r left

-- the production begins with a marker; one that its owner sees, so one of its own extension
pub record BeginsWithMarker (r : ResolvedParts) (g : GrammarView) (number : ℕ) : Type 0 where
  pub marker : ℕ
  pub is_marker : IsMarker r marker
  pub begins : IsAt g marker number 0

-- each production of an extension on a nonterminal of the host begins with a marker
abbrev pub BeginWithMarkers : ResolvedParts → GrammarView → Type 0
BeginWithMarkers r g = (number : ℕ) → IsOnHost r g number → BeginsWithMarker r g number

-- the marker begins the production, whose left side is the host's, and is at no other place of any production
pub record BeginsAlone (r : ResolvedParts) (g : GrammarView) (marker number : ℕ) : Type 0 where
  pub begins : IsAt g marker number 0
  pub host : IsHosts r begins.left
  pub alone : (other place : ℕ) → IsAt g marker other place → (other ≡ number) × (place ≡ 0)

-- there is exactly one production on a nonterminal of the host that the marker begins, and it is nowhere else
abbrev pub BeginsOne : ResolvedParts → GrammarView → ℕ → Type 0
BeginsOne r g marker = (number : ℕ) × BeginsAlone r g marker number

-- each marker begins exactly one production on a nonterminal of the host, and is nowhere else
abbrev pub EachBeginsOne : ResolvedParts → GrammarView → Type 0
EachBeginsOne r g = (marker : ℕ) → IsMarker r marker → BeginsOne r g marker

-- the production begins with a marker, and its left side isn't extensible
pub record IsClosed (r : ResolvedParts) (g : GrammarView) (number : ℕ) : Type 0 where
  pub marked : BeginsWithMarker r g number
  pub closed : ¬ Contains r.extensible marked.begins.left

-- no production that begins with a marker has a left side that isn't extensible
abbrev pub AreExtensible : ResolvedParts → GrammarView → Type 0
AreExtensible r g = (number : ℕ) (marked : BeginsWithMarker r g number) → Contains r.extensible marked.begins.left

-- each production of an extension on a nonterminal of the host begins with a marker, each marker begins exactly one such production and is
-- nowhere else, and the left sides of these productions are extensible
pub record AreBridges (r : ResolvedParts) (g : GrammarView) : Type 0 where
  pub begin : BeginWithMarkers r g
  pub once : EachBeginsOne r g
  pub extensible : AreExtensible r g
