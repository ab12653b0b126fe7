use Rattle.wb_compose_texts.proofs.ExtendsLemmas.{markers_marking}
use Rattle.wb_compose_texts.proofs.reading_laws.markers_law.Goals as goal

pub returns : goal.returns
returns c = markers_marking
