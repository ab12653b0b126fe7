-- Terminals that are compared with a marker.
use Rattle.std.specs.Prelude.{◌≡◌, ◌⊎◌, ◌<◌, ◌↔◌, ℕ, Bool, true, false, List, Option, Some, Contains, length, slice_get}
use Rattle.wb_termset.specs.Sets.{IsMember}
use Rattle.wb_lexical.specs.Clash.{AreOrdered}
use Rattle.wb_automata.specs.Sharing.{IsOnlyMatch}
use Rattle.wb_syntax_resolved.specs.declared.resolved.ResolvedParts.{ResolvedParts}
use Rattle.wb_syntax_resolved.specs.declared.terminal.Preference.{Preference}
use Rattle.wb_syntax_resolved.specs.declared.terminal.Terminal.{Terminal}
use Rattle.wb_syntax_resolved.specs.Resolved.{IsResolved}
use Rattle.wb_marking.specs.declared.clashes.Compared.{Compared}
use Rattle.wb_marking.specs.declared.clashes.Scanned.{Scanned}
use Rattle.wb_marking.specs.Clashes.{AreRivals, preference_pairs}
use Rattle.wb_marking.specs.Markers.{IsMarker}
use Rattle.wb_marking.specs.Refusals.{IsShownClash}

-- the marker has to be told apart from the other; of two markers the lesser from the greater
pub record AreCompared (r : ResolvedParts) (marker other : ℕ) : Type 0 where
  pub rivals : AreRivals r marker other
  pub in_order : IsMarker r other → marker < other

-- both terminals of the preference are below the count
pub record IsPreferenceBelow (count : ℕ) (preference : Preference) : Type 0 where
  pub first : preference.first < count
  pub second : preference.second < count

-- the preference names the two, in one order or the other
abbrev pub Orders : Preference → ℕ → ℕ → Type 0
Orders preference marker other =
    ((preference.first ≡ marker) × (preference.second ≡ other)) ⊎ ((preference.second ≡ marker) × (preference.first ≡ other))

-- one of the first preferences names the two
pub record SomeOrders (preferences : List Preference) (count marker other : ℕ) : Type 0 where
  pub place : ℕ
  pub before : place < count
  pub preference : Preference
  pub at : slice_get preferences place ≡ Some preference
  pub orders : Orders preference marker other

-- the set has the terminals that one of the first preferences orders against the marker
pub record AreOrderedBy (r : ResolvedParts) (count marker : ℕ) (set : List Bool) : Type 0 where
  pub len : length set ≡ length r.terminals
  pub each : (other : ℕ) → IsMember set other ↔ SomeOrders r.preferences count marker other

-- the set has the terminals that a preference orders against the marker
pub record AreOrderedWith (r : ResolvedParts) (marker : ℕ) (set : List Bool) : Type 0 where
  pub len : length set ≡ length r.terminals
  pub each : (other : ℕ) → IsMember set other ↔ AreOrdered (preference_pairs r) marker other

-- a terminal for which a text is listed matches that text alone
pub record AreOnlyTexts (terminals : List Terminal) (texts : List (Option (List ℕ))) : Type 0 where
  pub len : length texts ≡ length terminals
  pub each : (k : ℕ) (terminal : Terminal) (text : List ℕ) → slice_get terminals k ≡ Some terminal → slice_get texts k ≡ Some (Some text)
      → IsOnlyMatch terminal.pattern text

-- what is compared is a resolved specification's, with the texts of those of its terminals that have one alone
pub record IsScanned (scanned : Scanned) : Type 0 where
  pub resolved : IsResolved scanned.parts.now
  pub texts : AreOnlyTexts scanned.parts.now.terminals scanned.texts.now

-- besides, there is such a marker, and the set has what is ordered against it
pub record IsCompared (compared : Compared) : Type 0 where
  pub scanned : IsScanned compared.scanned.now
  pub is_marker : IsMarker compared.scanned.now.parts.now compared.marker
  pub ordered : AreOrderedWith compared.scanned.now.parts.now compared.marker compared.ordered.now

-- there is no clash of the marker with the other that could be shown
abbrev pub ShowsNone : ResolvedParts → ℕ → ℕ → Type 0
ShowsNone r marker other = (text : List ℕ) → ¬ IsShownClash r marker other text

-- the marker has to be told apart from the other, and no preference orders them
pub record IsPairToTest (r : ResolvedParts) (marker other : ℕ) : Type 0 where
  pub are : AreCompared r marker other
  pub unordered : ¬ AreOrdered (preference_pairs r) marker other

-- the two have to be tested, or else they don't clash
abbrev pub MayClash : Compared → ℕ → Bool → Type 0
MayClash compared other true = IsPairToTest compared.scanned.now.parts.now compared.marker other
MayClash compared other false = ShowsNone compared.scanned.now.parts.now compared.marker other

-- the pair is listed, if it shows a clash
abbrev pub Lists : ResolvedParts → List (ℕ × ℕ) → ℕ → ℕ → Type 0
Lists r pairs marker other = (text : List ℕ) → IsShownClash r marker other text → Contains pairs (marker, other)

-- pairs that have to be tested were added to a list
pub record Gathers (r : ResolvedParts) (old new : List (ℕ × ℕ)) : Type 0 where
  pub keeps : (pair : ℕ × ℕ) → Contains old pair → Contains new pair
  pub sound : (pair : ℕ × ℕ) → Contains new pair → Contains old pair ⊎ IsPairToTest r pair.0 pair.1

-- the list has the pairs of the first markers that may clash
pub record AreGathered (r : ResolvedParts) (pairs : List (ℕ × ℕ)) (count : ℕ) : Type 0 where
  pub sound : (pair : ℕ × ℕ) → Contains pairs pair → IsPairToTest r pair.0 pair.1
  pub lists : (marker other : ℕ) → marker < count → Lists r pairs marker other

-- all pairs have to be tested, and all that show a clash are listed
pub record ArePairsToTest (r : ResolvedParts) (pairs : List (ℕ × ℕ)) : Type 0 where
  pub sound : (pair : ℕ × ℕ) → Contains pairs pair → IsPairToTest r pair.0 pair.1
  pub lists : (marker other : ℕ) → Lists r pairs marker other
