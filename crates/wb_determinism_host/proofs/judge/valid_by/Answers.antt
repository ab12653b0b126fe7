use Rattle.std.proofs.Common.{subst}
use Rattle.wb_grammar_theory.specs.Lookaheads.{HasNoConflict}
use Rattle.wb_determinism_host.proofs.JudgeLemmas.{fit_for_parsing}
use Rattle.wb_determinism_host.proofs.judge.valid_by.Goals as goal

pub returns-in-Err-Conflict-clause-refused : goal.returns-in-Err-Conflict-clause-refused
returns-in-Err-Conflict-clause-refused c = (
  fit_for_parsing c.args.host.now c.requires,
  rw c.requires.ready.holes_are at (rw c.in-Err-Conflict.field-0-is at c.in-Err-Conflict.ensures.refused),
)

pub returns-in-Ok-clause-no_conflict : goal.returns-in-Ok-clause-no_conflict
returns-in-Ok-clause-no_conflict c = subst HasNoConflict c.requires.ready.holes_are c.in-Ok.ensures.no_conflict
