use Rattle.wb_compose_texts.proofs.OneTextValue.{one_text_value}
use Rattle.wb_compose_texts.proofs.value_laws.one_value_law.Goals as goal

pub returns : goal.returns
returns c = one_text_value
