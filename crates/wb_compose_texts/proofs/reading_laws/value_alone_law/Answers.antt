use Rattle.wb_compose_texts.proofs.ValueAlone.{text_value_back}
use Rattle.wb_compose_texts.proofs.reading_laws.value_alone_law.Goals as goal

pub returns : goal.returns
returns c = text_value_back
