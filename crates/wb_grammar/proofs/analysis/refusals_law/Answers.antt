use Rattle.wb_grammar.proofs.RefusalLemmas.{excluded}
use Rattle.wb_grammar.proofs.analysis.refusals_law.Goals as goal

pub returns : goal.returns
returns c = excluded
