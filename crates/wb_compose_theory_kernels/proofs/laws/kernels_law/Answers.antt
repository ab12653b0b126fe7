use Rattle.wb_compose_theory_kernels.proofs.SplicedLemmas.{spliced}
use Rattle.wb_compose_theory_kernels.proofs.TakenLemmas.{moves_back, spliced_back}
use Rattle.wb_compose_theory_kernels.proofs.laws.kernels_law.Goals as goal

pub returns-clause-spliced : goal.returns-clause-spliced
returns-clause-spliced c = λ host extensible pieces numbers kernels moves certified numbered listed led.
    spliced host extensible pieces certified numbers numbered kernels listed moves led

pub returns-clause-kernels : goal.returns-clause-kernels
returns-clause-kernels c = λ host extensible pieces numbers kernels moves certified numbered are.
    spliced_back host extensible pieces certified numbers numbered kernels moves are

pub returns-clause-moves : goal.returns-clause-moves
returns-clause-moves c = λ host extensible pieces numbers kernels moves certified numbered are.
    moves_back host extensible pieces certified numbers numbered kernels moves are
