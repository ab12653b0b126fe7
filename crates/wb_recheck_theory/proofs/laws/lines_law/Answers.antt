use Rattle.wb_recheck_theory.proofs.CertificateLemmas.{are_states}
use Rattle.wb_recheck_theory.proofs.ListsLemmas.{lists_of_lines, lines_are_moves}
use Rattle.wb_recheck_theory.proofs.laws.lines_law.Goals as goal

pub returns-clause-states : goal.returns-clause-states
returns-clause-states c g live lines good listed = are_states live lines good listed

pub returns-clause-lists : goal.returns-clause-lists
returns-clause-lists c g live lines good listed kernels moves lists = lists_of_lines live lines good listed kernels moves lists

pub returns-clause-moves : goal.returns-clause-moves
returns-clause-moves c g lines good kernels moves lists = lines_are_moves g lines good kernels moves lists
