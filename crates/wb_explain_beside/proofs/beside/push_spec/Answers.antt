use Rattle.wb_explain_beside.proofs.SaysLemmas.{beside_says}
use Rattle.wb_explain_beside.proofs.beside.push_spec.Goals as goal

pub returns-in-Ok : goal.returns-in-Ok
returns-in-Ok c = λ contents own stands is.
    beside_says c.push_numbered-answer.result contents own c.args.out.now.items c.push_numbered-answer.new.out.items c.args.host.now
    c.in-Ok.resolved c.args.spec.now stands is c.in-Ok.ensures.ok c.push_numbered-answer.ensures
