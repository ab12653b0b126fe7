use Rattle.std.proofs.Common.{refl}
use Rattle.wb_recheck_theory.proofs.DeadLemmas.{dead_never}
use Rattle.wb_recheck_theory.proofs.DeadLines.{dead_listed}
use Rattle.wb_recheck_theory.proofs.DeadEntries.{dead_certificate, dead_not_live}
use Rattle.wb_recheck_theory.proofs.laws.dead_law.Goals as goal

pub returns-clause-certificate : goal.returns-clause-certificate
returns-clause-certificate c = dead_certificate

pub returns-clause-listed : goal.returns-clause-listed
returns-clause-listed c = dead_listed

pub returns-clause-never : goal.returns-clause-never
returns-clause-never c prefix (t, v) = dead_never v refl

pub returns-clause-not_live : goal.returns-clause-not_live
returns-clause-not_live c = dead_not_live
