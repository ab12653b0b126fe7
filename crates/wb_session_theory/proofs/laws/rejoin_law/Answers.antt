use Rattle.std.proofs.Common.{[]}
use Rattle.wb_session_theory.proofs.NumberLemmas.{states_symbols}
use Rattle.wb_session_theory.proofs.SessionLemmas.{edit_behind, rejoined, later_stack}
use Rattle.wb_session_theory.proofs.laws.rejoin_law.Goals as goal

pub returns-clause-answer : goal.returns-clause-answer
returns-clause-answer c l tables ok text bytes from to first within d f e k at states base other stack answer old rest ends new
    of_base of_other =
    let r = rejoined l ok (edit_behind text bytes from to first within) e k old rest ends new
    (states_symbols tables ok.deterministic.in_range [] [] states base other of_base of_other) in
    (r.outcome, r.is, r.spine, r.of_new)

pub returns-clause-later : goal.returns-clause-later
returns-clause-later c l tables ok text bytes from to first within f e k at states base other stack rest new of_base of_other =
    let r = later_stack l ok (edit_behind text bytes from to first within) e k rest new
    (states_symbols tables ok.deterministic.in_range [] [] states base other of_base of_other) in
    (r.frame, r.further, r.is, r.at_is, r.spine, r.reads)

pub returns-clause-rest : goal.returns-clause-rest
returns-clause-rest c l tables ok x y a b s d f e k at states base other stack answer old rest ends new of_base of_other =
    let r = rejoined l ok s e k old rest ends new
    (states_symbols tables ok.deterministic.in_range [] [] states base other of_base of_other) in
    (r.outcome, r.is, r.spine, r.of_new)
