use Rattle.wb_eval_theory.proofs.EnoughLemmas.{some_enough, more_enough, needed_answers, either, exact}
use Rattle.wb_eval_theory.proofs.laws.enough_law.Goals as goal

pub returns-clause-some : goal.returns-clause-some
returns-clause-some c = some_enough

pub returns-clause-more : goal.returns-clause-more
returns-clause-more c = more_enough

pub returns-clause-each : goal.returns-clause-each
returns-clause-each c = needed_answers

pub returns-clause-either : goal.returns-clause-either
returns-clause-either c = either

pub returns-clause-exact : goal.returns-clause-exact
returns-clause-exact c = exact
