use Rattle.wb_recheck_theory.proofs.CertificateLemmas.{states, entries_exact, kernel_there, kernel_back}
use Rattle.wb_recheck_theory.proofs.laws.certificate_law.Goals as goal

pub returns-clause-kernels : goal.returns-clause-kernels
returns-clause-kernels c g live lines entries h = states live lines entries h

pub returns-clause-items : goal.returns-clause-items
returns-clause-items c g live lines entries h k lt item =
    (kernel_there live lines h.lines_good k item, kernel_back live lines h.lines_good k lt item)

pub returns-clause-entries : goal.returns-clause-entries
returns-clause-entries c g live lines entries h = entries_exact live lines entries h
