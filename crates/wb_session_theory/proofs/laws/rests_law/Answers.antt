use Rattle.wb_session_theory.proofs.SessionLemmas.{edit_behind, rest_then, rest_later}
use Rattle.wb_session_theory.proofs.laws.rests_law.Goals as goal

pub returns-clause-edit : goal.returns-clause-edit
returns-clause-edit c text bytes from to first within = edit_behind text bytes from to first within

pub returns-clause-both : goal.returns-clause-both
returns-clause-both c x y z a b c' s t = rest_then s t

pub returns-clause-later : goal.returns-clause-later
returns-clause-later c x y a b k s within = rest_later s k within
