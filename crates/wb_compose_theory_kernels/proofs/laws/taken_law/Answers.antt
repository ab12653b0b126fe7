use Rattle.wb_compose_theory_kernels.proofs.TakenLemmas.{lead_to_bridges, markers_reached, moves_taken, taken_once}
use Rattle.wb_compose_theory_kernels.proofs.laws.taken_law.Goals as goal

pub returns-clause-once : goal.returns-clause-once
returns-clause-once c = λ host extensible pieces numbers certified numbered. taken_once host extensible pieces certified numbers numbered

pub returns-clause-moves : goal.returns-clause-moves
returns-clause-moves c = λ host extensible pieces numbers certified numbered. moves_taken host extensible pieces certified numbers numbered

pub returns-clause-bridges : goal.returns-clause-bridges
returns-clause-bridges c = λ host extensible pieces numbers certified numbered.
    lead_to_bridges host extensible pieces certified numbers numbered

pub returns-clause-markers : goal.returns-clause-markers
returns-clause-markers c = λ host extensible pieces numbers certified numbered.
    markers_reached host extensible pieces certified numbers numbered
