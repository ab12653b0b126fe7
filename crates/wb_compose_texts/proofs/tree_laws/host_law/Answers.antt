use Rattle.wb_compose_texts.proofs.HostLemmas.{names_alone, same_answers, same_texts}
use Rattle.wb_compose_texts.proofs.tree_laws.host_law.Goals as goal

pub returns : goal.returns
returns c = record { texts = same_texts; names = names_alone; answers = same_answers }
