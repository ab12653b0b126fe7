use Rattle.wb_recheck_text.proofs.LawLemmas.{no_fault, one_fault, printed}
use Rattle.wb_recheck_text.proofs.OneLemmas.{one_certificate}
use Rattle.wb_recheck_text.proofs.laws.text_law.Goals as goal

pub returns-clause-no_fault : goal.returns-clause-no_fault
returns-clause-no_fault c = no_fault

pub returns-clause-one_fault : goal.returns-clause-one_fault
returns-clause-one_fault c = one_fault

pub returns-clause-one_certificate : goal.returns-clause-one_certificate
returns-clause-one_certificate c = one_certificate
