-- Whether the markers of an extension can be told apart from what else is scanned.
use Rattle.std.specs.Prelude.{◌≡◌, ◌≢◌, ◌⊎◌, ℕ, List, Some, map, slice_get}
use Rattle.wb_regex.specs.Matches.{Matches}
use Rattle.wb_lexical.specs.Clash.{AreOrdered}
use Rattle.wb_syntax_resolved.specs.declared.resolved.ResolvedParts.{ResolvedParts}
use Rattle.wb_syntax_resolved.specs.declared.terminal.Preference.{Preference}
use Rattle.wb_syntax_resolved.specs.declared.terminal.Terminal.{Terminal}
use Rattle.wb_syntax_resolved.specs.declared.terminal.TerminalKind.TheVariants.{Plain, Marking}

-- the preferences as pairs, the preferred terminal first
abbrev pub preference_pairs : ResolvedParts → List (ℕ × ℕ)
preference_pairs r = map (λ (p : Preference). (p.first, p.second)) r.preferences

-- the other is the host's, or layout or a marker of the same owner
abbrev pub IsRival : Terminal → Terminal → Type 0
IsRival marker other = (other.owner ≡ 0) ⊎ ((other.owner ≡ marker.owner) × (other.kind ≢ Plain))

-- the first terminal is a marker, and the second another one that is the host's, or layout or a marker of the same owner
pub record AreRivals (r : ResolvedParts) (marker other : ℕ) : Type 0 where
  pub own : Terminal
  pub own_is : slice_get r.terminals marker ≡ Some own
  pub marking : own.kind ≡ Marking
  pub rival : Terminal
  pub rival_is : slice_get r.terminals other ≡ Some rival
  pub is_rival : IsRival own rival
  pub different : marker ≢ other

-- a marker and such a terminal match the text, and no preference orders them
pub record IsMarkerClash (r : ResolvedParts) (marker other : ℕ) (text : List ℕ) : Type 0 where
  pub rivals : AreRivals r marker other
  pub own_matches : Matches rivals.own.pattern text
  pub rival_matches : Matches rivals.rival.pattern text
  pub unordered : ¬ AreOrdered (preference_pairs r) marker other

-- no marker shares a text with another marker of its extension, with layout, or with a terminal of the host, but where a preference orders
-- the two
abbrev pub HasNoMarkerClash : ResolvedParts → Type 0
HasNoMarkerClash r = (marker other : ℕ) (text : List ℕ) → ¬ IsMarkerClash r marker other text
