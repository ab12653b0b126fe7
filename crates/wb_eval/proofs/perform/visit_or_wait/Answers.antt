use Rattle.wb_eval.proofs.PerformLemmas.{visit_none, visit_some}
use Rattle.wb_eval.proofs.perform.visit_or_wait.Goals as goal

pub visit-requires-clause-visit : goal.visit-requires-clause-visit
visit-requires-clause-visit c = c.requires.visit

pub visit-requires-clause-evaluating : goal.visit-requires-clause-evaluating
visit-requires-clause-evaluating c = c.requires.evaluating

pub returns-in-Ok-Some : goal.returns-in-Ok-Some
returns-in-Ok-Some c = λ a operations rest ev.
    visit_some c.args.evaluation.now.machine c.visit.new.evaluation.machine c.args.site _ _ rest c.visit.new.evaluation.values.items _
    c.in-Ok-Some.key c.in-Ok-Some.field-0-is (c.in-Ok-Some.ensures a operations rest ev)

pub returns-in-Ok-None : goal.returns-in-Ok-None
returns-in-Ok-None c = λ a operations rest ev.
    visit_none c.args.evaluation.now.machine c.visit.new.evaluation.machine c.args.site _ _ rest c.visit.new.evaluation.values.items _
    c.in-Ok-None.field-0-is (c.in-Ok-None.ensures a operations rest ev)
