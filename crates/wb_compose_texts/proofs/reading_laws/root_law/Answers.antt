use Rattle.wb_compose_texts.proofs.AskedLemmas.{same_roots}
use Rattle.wb_compose_texts.proofs.reading_laws.root_law.Goals as goal

pub returns : goal.returns
returns c = same_roots
