-- What a host reading answers, and what is answered of the markers alone.
use Rattle.std.specs.Prelude.{Bool, List, ℕ}
use Rattle.wb_scan_theory.specs.Languages.{LanguageView}
use Rattle.wb_syntax_resolved.specs.declared.attribution.AttributionParts.{AttributionParts}
use Rattle.wb_compose_theory_attributes.specs.Numbers.{NumberMap}
use Rattle.wb_reading_theory.specs.Extends.{Extends}
use Rattle.wb_reading_theory.specs.HostReading.{IsSameReading}
use Rattle.wb_reading_theory.specs.Markers.{IsMarkerAt, IsPlain}
use Rattle.wb_reading.specs.declared.reading.HostReading.{HostReading}
use Rattle.wb_reading.specs.declared.reading.HostReading.TheVariants.{Same, MarkerAt}

-- the answer is the first marker of the text, with its place, or that it has none
abbrev pub IsFirstMarker : LanguageView → List Bool → List ℕ → HostReading → Type 0
IsFirstMarker u markers text Same = IsPlain u markers text
IsFirstMarker u markers text (MarkerAt at terminal) = IsMarkerAt u markers text at terminal

-- the answer is the first marker of the text, with its place; or the text has none, and means in the second language what it means in the
-- first, whichever numbers of the first in the second show that it extends the first
abbrev pub IsHostReading : LanguageView → LanguageView → AttributionParts → AttributionParts → List Bool → List ℕ → HostReading → Type 0
IsHostReading h u s a markers text Same = (t : NumberMap) → Extends h u s a t markers → IsSameReading h u s a t markers text
IsHostReading h u s a markers text (MarkerAt at terminal) = IsMarkerAt u markers text at terminal
