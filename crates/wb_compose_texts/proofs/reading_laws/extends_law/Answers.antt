use Rattle.wb_compose_texts.proofs.ExtendsLemmas.{composed_extends}
use Rattle.wb_compose_texts.proofs.reading_laws.extends_law.Goals as goal

pub returns : goal.returns
returns c = composed_extends
