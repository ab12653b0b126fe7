-- The first marker by the set is the first of the union's.
use Rattle.std.proofs.Common.{ap}
use Rattle.wb_compose_texts.proofs.ReadingLemmas.{marker_found}
use Rattle.wb_compose.specs.LanguageViews.{LanguageParts}
use Rattle.wb_compose_texts.proofs.reading.marker_in.Goals as goal

pub returns : goal.returns
returns c =
    marker_found c.args.host.now c.args.extensions.now c.language-united.result.now.language c.args.composed.now.language.language
    (ap (λ (v : LanguageParts). v.language) c.language-united.ensures) c.in_ok-markers.markers c.in_ok-markers.ensures c.args.text.now
    c.first_marker-found.result c.first_marker-found.ensures.ok c.first_marker-found.ensures.language
