use Rattle.std.proofs.Common.{refl}
use Rattle.wb_scan_theory.proofs.FactLemmas.{parsable}
use Rattle.wb_session_theory.proofs.ScanLemmas.{scan_there, scan_moved}
use Rattle.wb_session_theory.proofs.NumberLemmas.{state_kernel}
use Rattle.wb_session_theory.proofs.laws.moved_law.Goals as goal

pub returns-clause-state : goal.returns-clause-state
returns-clause-state c l tables ok state prefix other p q text e at next scan =
    scan_there (parsable l.grammar ok.deterministic).live (state_kernel ok.deterministic.in_range p q) scan

pub returns-clause-rest : goal.returns-clause-rest
returns-clause-rest c l prefix x y a b s e k next scan = scan_moved s e scan refl k refl
