-- Of a host by itself: that it has a language, in which no text has a marker.
use Rattle.std.proofs.Common.{◌≡◌, [], false, ℕ, List, replicate, refl, subst}
use Rattle.std.proofs.lemmas.List.{append-nil}
use Rattle.wb_certify_shown.specs.Names.{terminals_in}
use Rattle.wb_compose.proofs.ExistenceLemmas.{some_language}
use Rattle.wb_lemmas.proofs.NotNot.{follows}
use Rattle.wb_lemmas.proofs.Places.{nothing_at}
use Rattle.wb_operations.specs.Operations.{OperationSignature}
use Rattle.wb_syntax_resolved.specs.declared.resolved.ResolvedParts.{ResolvedParts}
use Rattle.wb_termset.specs.Sets.{IsMember}
use Rattle.wb_termset.proofs.CallerLemmas.{IsEmpty-replicate}
use Rattle.wb_compose_texts.specs.HostReadings.{HasLanguage}
use Rattle.wb_compose_texts.specs.Readings.{IsUnionReading}
use Rattle.wb_compose_texts.specs.UnionMarkers.{union_markers}
use Rattle.wb_compose_texts.specs.Unions.{Union}
use Rattle.wb_compose_texts.specs.declared.text_reading.TextReading.{TextReading}
use Rattle.wb_compose_texts.specs.declared.text_reading.TextReading.TheVariants.{Host, MarkerAt}
use Rattle.wb_compose_texts.proofs.ExtendsLemmas.{alone_with}

module _ (host : ResolvedParts) (operations : List OperationSignature) where
  -- without extensions there is no marker
  no_marker : (t : ℕ) → ¬ IsMember (union_markers host []) t
  no_marker t has =
      IsEmpty-replicate (terminals_in host.grammar) t
      (subst (λ set. IsMember set t) (append-nil (replicate (terminals_in host.grammar) false)) has)

  pub alone_reads : HasLanguage host operations [] → (text : List ℕ) → IsUnionReading host operations [] text Host
  alone_reads has text = record {
    whole = has.whole;
    language = has.language;
    is_language = has.is_language;
    is = λ place marker x. no_marker marker x.marks;
  }

  pub alone_only : (text : List ℕ) (reading : TextReading) → IsUnionReading host operations [] text reading → reading ≡ Host
  alone_only text Host is = refl
  alone_only text (MarkerAt place name) is = absurd (no_marker is.is.terminal is.is.first.marks)

  -- where it has one with extensions, that it has none by itself can't be
  pub has_language : (extensions : List ResolvedParts) → Union host operations extensions → ¬ ¬ HasLanguage host operations []
  has_language extensions all =
      let none = alone_with host operations extensions all in
      follows (some_language host none.grammar operations [] none.certified (λ x i j at. absurd (nothing_at x i at))) (λ (l, is).
      record { whole = none; language = l; is_language = record { of_union = is.of_union; language = is.language } })
