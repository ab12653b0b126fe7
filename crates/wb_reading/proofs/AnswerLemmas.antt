-- What follows of what was found, for a language with attributes that is extended.
use Rattle.std.proofs.Common.{Bool, List, ℕ, Result, Ok, Err}
use Rattle.std.specs.Prelude.{IfOk}
use Rattle.wb_reading_theory.proofs.ReadingLemmas.{same_reading}
use Rattle.wb_scan_theory.specs.Facts.{IsLanguage}
use Rattle.wb_scan_theory.specs.Languages.{LanguageView}
use Rattle.wb_syntax_resolved.specs.Attribution.{IsAttribution}
use Rattle.wb_syntax_resolved.specs.declared.attribution.AttributionParts.{AttributionParts}
use Rattle.wb_reading.specs.Answers.{IsFirstMarker, IsHostReading}
use Rattle.wb_reading.specs.declared.reading.HostReading.{HostReading}
use Rattle.wb_reading.specs.declared.reading.HostReading.TheVariants.{Same, MarkerAt}

-- a text without markers has the same meaning
pub reading_found : (h u : LanguageView) (s a : AttributionParts) (markers : List Bool) (text : List ℕ) → IsLanguage h → IsLanguage u →
    IsAttribution s → IsAttribution a → (found : HostReading) → IsFirstMarker u markers text found → IsHostReading h u s a markers text found
reading_found h u s a markers text host united small large Same plain =
    λ t extends. same_reading h u s a t markers host united small large extends text plain
reading_found h u s a markers text host united small large (MarkerAt at terminal) is = is

-- so with what was answered
pub reading_answered : {E : Type 0} (h u : LanguageView) (s a : AttributionParts) (markers : List Bool) (text : List ℕ) → IsLanguage h →
    IsAttribution s → IsAttribution a → (answer : Result HostReading E) → IfOk answer (IsFirstMarker u markers text) →
    IfOk answer (λ _. IsLanguage u) → IfOk answer (IsHostReading h u s a markers text)
reading_answered h u s a markers text host small large (Ok found) is united =
    reading_found h u s a markers text host united small large found is
reading_answered h u s a markers text host small large (Err error) is united = tt
