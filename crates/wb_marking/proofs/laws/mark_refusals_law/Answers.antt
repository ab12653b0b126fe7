use Rattle.wb_marking.proofs.RefusalLemmas.{excluded}
use Rattle.wb_marking.proofs.laws.mark_refusals_law.Goals as goal

pub returns : goal.returns
returns c = excluded
