-- A reading by number is one in the union, with the marker's name.
use Rattle.std.proofs.Common.{subst}
use Rattle.wb_compose_texts.specs.Unions.{all_resolved}
use Rattle.wb_compose_texts.specs.UnionMarkers.{union_markers}
use Rattle.wb_compose_texts.specs.declared.text_reading.TextReading.TheVariants.{Host, MarkerAt}
use Rattle.wb_compose_texts.proofs.ReadingLemmas.{reading_is}
use Rattle.wb_reading.specs.Answers.{IsFirstMarker}
use Rattle.wb_compose_texts.proofs.reading.shown.Goals as goal

pub returns-in-Same : goal.returns-in-Same
returns-in-Same c text is =
    let host = c.args.host.now in
    let extensions = c.args.extensions.now in
    let l = c.args.composed.now.language.language in
    reading_is host extensions l c.args.composed.now.withdrawn.items c.requires is.language text Host
    (subst (IsFirstMarker l (union_markers host.resolved (all_resolved extensions)) text) c.in-Same.is is.first)

pub returns-in_ok-marker-in-MarkerAt : goal.returns-in_ok-marker-in-MarkerAt
returns-in_ok-marker-in-MarkerAt c text is =
    let host = c.args.host.now in
    let extensions = c.args.extensions.now in
    let l = c.args.composed.now.language.language in
    reading_is host extensions l c.args.composed.now.withdrawn.items c.requires is.language text
    (MarkerAt c.in-MarkerAt.at c.in_ok-marker-in-MarkerAt.marker)
    (record {
      terminal = c.in-MarkerAt.terminal;
      first = subst (IsFirstMarker l (union_markers host.resolved (all_resolved extensions)) text) c.in-MarkerAt.is is.first;
      named = c.in_ok-marker-in-MarkerAt.ensures;
    })
