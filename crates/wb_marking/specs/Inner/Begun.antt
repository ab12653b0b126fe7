-- What a table says of the productions that terminals begin.
use Rattle.std.specs.Prelude.{◌≡◌, ◌<◌, ◌↔◌, ℕ, Bool, List, Option, None, Some, Contains, length, slice_index_or}
use Rattle.wb_base.specs.Grammar.{GrammarView}
use Rattle.wb_termset.specs.Sets.{IsMember}
use Rattle.wb_syntax_resolved.specs.declared.resolved.ResolvedParts.{ResolvedParts}
use Rattle.wb_marking.specs.Bridges.{BeginsWithMarker}
use Rattle.wb_marking.specs.Markers.{IsMarker, IsHosts, IsAt}

-- the terminal begins the production, which is on a nonterminal of the host
pub record BeginsOnHost (r : ResolvedParts) (g : GrammarView) (terminal number : ℕ) : Type 0 where
  pub begins : IsAt g terminal number 0
  pub host : IsHosts r begins.left

-- each entry is a production on a nonterminal of the host that the terminal begins, and each marker that begins one of the first such
-- productions has an entry
pub record AreBegun (r : ResolvedParts) (g : GrammarView) (count : ℕ) (table : List (Option ℕ)) : Type 0 where
  pub len : length table ≡ length r.terminals
  pub true_ones : (terminal number : ℕ) → slice_index_or table terminal None ≡ Some number → BeginsOnHost r g terminal number
  pub all : (marker number : ℕ) → number < count → IsMarker r marker → BeginsOnHost r g marker number
      → (other : ℕ) × (slice_index_or table marker None ≡ Some other)

-- the place is the one where the marker begins the production that the table has for it
abbrev pub IsBeginning : List (Option ℕ) → ℕ → ℕ → ℕ → Type 0
IsBeginning table marker number place = (place ≡ 0) × (slice_index_or table marker None ≡ Some number)

-- at each of the first places of the production a marker is at its beginning
abbrev pub BeginsAllBefore : ResolvedParts → GrammarView → List (Option ℕ) → ℕ → ℕ → Type 0
BeginsAllBefore r g table number count =
    (marker place : ℕ) → place < count → IsMarker r marker → IsAt g marker number place → IsBeginning table marker number place

-- at each place of the production a marker is at its beginning
abbrev pub BeginsAll : ResolvedParts → GrammarView → List (Option ℕ) → ℕ → Type 0
BeginsAll r g table number = (marker place : ℕ) → IsMarker r marker → IsAt g marker number place → IsBeginning table marker number place

-- the marker is at a place that is no beginning
pub record IsMisplaced (r : ResolvedParts) (g : GrammarView) (table : List (Option ℕ)) (marker : ℕ) : Type 0 where
  pub is_marker : IsMarker r marker
  pub number : ℕ
  pub place : ℕ
  pub at : IsAt g marker number place
  pub no_beginning : ¬ IsBeginning table marker number place

-- the marker has no production in the table
pub record IsUnused (r : ResolvedParts) (table : List (Option ℕ)) (marker : ℕ) : Type 0 where
  pub is_marker : IsMarker r marker
  pub unused : slice_index_or table marker None ≡ None

-- the set has these numbers below the count, and no others
pub record AreIn (count : ℕ) (numbers : List ℕ) (set : List Bool) : Type 0 where
  pub len : length set ≡ count
  pub each : (number : ℕ) → IsMember set number ↔ Contains numbers number

-- where the production begins with a marker, its left side is extensible
abbrev pub IsOpen : ResolvedParts → GrammarView → ℕ → Type 0
IsOpen r g number = (marked : BeginsWithMarker r g number) → Contains r.extensible marked.begins.left
