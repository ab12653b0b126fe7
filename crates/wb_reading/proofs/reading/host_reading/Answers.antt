use Rattle.wb_reading.proofs.AnswerLemmas.{reading_answered}
use Rattle.wb_reading.proofs.reading.host_reading.Goals as goal

pub returns : goal.returns
returns c = record {
  ok = reading_answered c.args.host.now.language c.args.united.now.language c.args.host_attributes.now c.args.attributes.now
      c.args.markers.now c.args.text.now c.grammar-grammar.ensures.language c.parts-parts.ensures.whole c.parts-united_parts.ensures.whole
      c.first_marker.result c.first_marker.ensures.ok c.first_marker.ensures.language;
}
