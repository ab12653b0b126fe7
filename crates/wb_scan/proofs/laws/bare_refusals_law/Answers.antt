use Rattle.wb_scan.proofs.RefusalLemmas.{excluded}
use Rattle.wb_scan.proofs.laws.bare_refusals_law.Goals as goal

pub returns : goal.returns
returns c = excluded
