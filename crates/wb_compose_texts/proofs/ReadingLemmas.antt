-- What is read of a text by number is its reading, with the name of its marker.
use Rattle.std.proofs.Common.{◌≡◌, ℕ, Bool, List, Result, Ok, Err, subst}
use Rattle.std.specs.Prelude.{IfOk}
use Rattle.wb_compose.specs.Kept.{ExtensionView}
use Rattle.wb_compose.specs.Hosts.{CertifiedView}
use Rattle.wb_compose.specs.Composed.{IsComposed}
use Rattle.wb_compose_texts.specs.Names.{terminals_of}
use Rattle.wb_compose_texts.specs.Unions.{all_resolved}
use Rattle.wb_compose_texts.proofs.ComposedLemmas.{union_is}
use Rattle.wb_reading.specs.Answers.{IsFirstMarker}
use Rattle.wb_reading.specs.declared.reading.HostReading.{HostReading}
use Rattle.wb_reading.specs.declared.reading.HostReading.TheVariants as found
use Rattle.wb_compose_texts.specs.UnionMarkers.{AreUnionMarkers, union_markers}
use Rattle.wb_compose_texts.specs.Inner.FirstMarkers.{IsMarkerFound}
use Rattle.wb_compose_texts.specs.Readings.{IsReadingIn, IsUnionReading}
use Rattle.wb_compose_texts.specs.declared.text_reading.TextReading.{TextReading}
use Rattle.wb_compose_texts.proofs.MarkerLemmas.{marker_by, plain_by}
use Rattle.wb_scan_theory.specs.Facts.{IsLanguage}
use Rattle.wb_scan_theory.specs.Languages.{LanguageView}

module _ (host : CertifiedView) (es : List ExtensionView) where
  abbrev markers_of : List Bool
  markers_of = union_markers host.resolved (all_resolved es)

  -- the first marker by a set is the first of those that the set has
  first_of : (u : LanguageView) (markers : List Bool) → AreUnionMarkers host.resolved (all_resolved es) markers → (text : List ℕ)
      (reading : HostReading) → IsFirstMarker u markers text reading → IsFirstMarker u markers_of text reading
  first_of u markers are text found.Same is = plain_by markers markers_of are u text is
  first_of u markers are text (found.MarkerAt place terminal) is = marker_by markers markers_of are u text place terminal is

  -- so it is found, in a language that is the same
  pub marker_found : {E : Type 0} (l u : LanguageView) → l ≡ u → (markers : List Bool) →
      AreUnionMarkers host.resolved (all_resolved es) markers → (text : List ℕ) (answer : Result HostReading E) →
      IfOk answer (IsFirstMarker l markers text) → IfOk answer (λ _. IsLanguage l) → IfOk answer (IsMarkerFound host es u text)
  marker_found l u same markers are text (Ok reading) first ok =
      subst (λ (z : LanguageView). IsMarkerFound host es z text reading) same
      (record { language = ok; first = first_of l markers are text reading first })
  marker_found l u same markers are text (Err error) first ok = tt

  -- and is the reading in the union
  pub reading_is : (u : LanguageView) (withdrawn : List ℕ) → IsComposed host es u withdrawn → IsLanguage u → (text : List ℕ)
      (reading : TextReading) → IsReadingIn (terminals_of host.resolved (all_resolved es)) markers_of u text reading →
      IsUnionReading host.resolved host.operations (all_resolved es) text reading
  reading_is u withdrawn composed ok text reading is = record {
    whole = union_is host es u withdrawn composed;
    language = u;
    is_language = record { of_union = composed.language; language = ok };
    is = is;
  }
