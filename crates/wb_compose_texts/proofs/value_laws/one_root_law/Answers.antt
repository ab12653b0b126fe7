use Rattle.wb_compose_texts.proofs.OneUnion.{one_root}
use Rattle.wb_compose_texts.proofs.value_laws.one_root_law.Goals as goal

pub returns : goal.returns
returns c = one_root
