use Rattle.std.proofs.Common.{sym}
use Rattle.wb_explain_conflicts.proofs.SaidLemmas.{says_both}
use Rattle.wb_explain_conflicts.proofs.conflict.push_of_extension.Goals as goal

pub push_beside-answer-requires : goal.push_beside-answer-requires
push_beside-answer-requires g c = sym c.in-Ok.ensures.operations

pub returns-in-Ok : goal.returns-in-Ok
returns-in-Ok g c =
    says_both c.push_beside-answer.result c.in-Ok.certified.resolved c.args.host.now c.args.contents.now c.args.out.now.items
    c.push_beside-answer.new.out.items c.in-Ok.ensures.host.stands c.push_beside-answer.ensures
