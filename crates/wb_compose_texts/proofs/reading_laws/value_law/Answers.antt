use Rattle.wb_compose_texts.proofs.ValueLemmas.{text_value_there}
use Rattle.wb_compose_texts.proofs.reading_laws.value_law.Goals as goal

pub returns : goal.returns
returns c = text_value_there
