-- What is said comes after the lines.
use Rattle.std.proofs.Common.{◌≡◌}
use Rattle.wb_explain.proofs.EndLemmas.{on_ok}
use Rattle.wb_explain.proofs.program.add_said.Goals as goal

pub returns-clause-begins : goal.returns-clause-begins
returns-clause-begins g c = on_ok c.add-answer.result _ _ (λ added. (c.deref.result.now, added)) c.add-answer.ensures
