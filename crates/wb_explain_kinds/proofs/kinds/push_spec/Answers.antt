use Rattle.std.proofs.Common.{Some}
use Rattle.wb_explain_kinds.specs.Said.{SaysOf}
use Rattle.wb_explain_kinds.proofs.SaysLemmas.{beside_says, on_ok}
use Rattle.wb_explain_kinds.proofs.kinds.push_spec.Goals as goal

pub returns-in-Ok : goal.returns-in-Ok
returns-in-Ok g c = λ contents own stands is.
    on_ok c.push_mismatch-answer.result _
    (SaysOf c.args.operations.now.signatures (Some contents) own c.args.out.now.items c.push_mismatch-answer.new.out.items)
    (beside_says c.args.operations.now.signatures contents own c.args.out.now.items c.push_mismatch-answer.new.out.items c.args.host.now
    c.in-Ok.resolved c.args.spec.now stands is c.in-Ok.ensures.ok)
    c.push_mismatch-answer.ensures
