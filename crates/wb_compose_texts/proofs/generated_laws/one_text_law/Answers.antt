use Rattle.wb_compose_texts.proofs.OneLemmas.{one_text}
use Rattle.wb_compose_texts.proofs.generated_laws.one_text_law.Goals as goal

pub returns : goal.returns
returns c = one_text
