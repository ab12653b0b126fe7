use Rattle.wb_determinism_theory.proofs.LawLemmas.{looks_close, looks_move}
use Rattle.wb_determinism_theory.proofs.laws.steps_law.Goals as goal

pub returns-clause-closes : goal.returns-clause-closes
returns-clause-closes c = λ w e ready prefix i t b rest q u looks is rule left f. looks_close prefix i t b rest q u looks is rule left f

pub returns-clause-moves : goal.returns-clause-moves
returns-clause-moves c = λ w e ready prefix to i t x rest looks is leads.
    looks_move ready.is_marked ready.both_parts prefix to i t x rest looks is leads
