-- The first marker of a text in a language of a host with extensions, by number.
use Rattle.std.specs.Prelude.{ℕ, List}
use Rattle.wb_compose.specs.Kept.{ExtensionView}
use Rattle.wb_compose.specs.Hosts.{CertifiedView}
use Rattle.wb_compose_texts.specs.UnionMarkers.{union_markers}
use Rattle.wb_compose_texts.specs.Unions.{all_resolved}
use Rattle.wb_reading.specs.Answers.{IsFirstMarker}
use Rattle.wb_reading.specs.declared.reading.HostReading.{HostReading}
use Rattle.wb_scan_theory.specs.Facts.{IsLanguage}
use Rattle.wb_scan_theory.specs.Languages.{LanguageView}

-- texts are parsed in the language, and there the text has no marker of the extensions, or this is the first
pub record IsMarkerFound (host : CertifiedView) (extensions : List ExtensionView) (u : LanguageView) (text : List ℕ) (found : HostReading)
    : Type 0 where
  pub language : IsLanguage u
  pub first : IsFirstMarker u (union_markers host.resolved (all_resolved extensions)) text found
