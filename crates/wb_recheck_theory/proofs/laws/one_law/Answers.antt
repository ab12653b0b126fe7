use Rattle.wb_recheck_theory.proofs.OneEntries.{one_live, one_certificate, one_missing, one_wrong_origin}
use Rattle.wb_recheck_theory.proofs.laws.one_law.Goals as goal

pub returns-clause-live : goal.returns-clause-live
returns-clause-live c = one_live

pub returns-clause-certificate : goal.returns-clause-certificate
returns-clause-certificate c = one_certificate

pub returns-clause-missing : goal.returns-clause-missing
returns-clause-missing c = one_missing

pub returns-clause-origin : goal.returns-clause-origin
returns-clause-origin c = one_wrong_origin
