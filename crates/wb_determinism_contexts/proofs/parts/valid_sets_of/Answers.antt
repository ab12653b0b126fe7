use Rattle.std.proofs.Common.{subst}
use Rattle.wb_grammar_theory.specs.Lookaheads.{HasNoConflict}
use Rattle.wb_determinism_contexts.proofs.parts.valid_sets_of.Goals as goal

pub returns-in-Ok-clause-no_conflict : goal.returns-in-Ok-clause-no_conflict
returns-in-Ok-clause-no_conflict c = subst HasNoConflict c.requires.kernels c.in-Ok.ensures.no_conflict
