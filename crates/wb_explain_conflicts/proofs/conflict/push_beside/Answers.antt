use Rattle.wb_explain_conflicts.proofs.SaidLemmas.{says_beside}
use Rattle.wb_explain_conflicts.proofs.conflict.push_beside.Goals as goal

pub returns-in-Ok : goal.returns-in-Ok
returns-in-Ok g c =
    says_beside c.push_spec-answer.result c.args.host.now.resolved c.args.contents.now c.in-Ok.spec c.args.out.now.items
    c.push_spec-answer.new.out.items c.in-Ok.ensures.spec c.push_spec-answer.ensures
