use Rattle.wb_certify_files.proofs.HostLemmas.{of_text}
use Rattle.wb_certify_files.specs.HostContents.{StandsFor}
use Rattle.wb_explain_conflicts.proofs.SaidLemmas.{says_of}
use Rattle.wb_explain_conflicts.proofs.conflict.push_of_host.Goals as goal

pub push_resolved-answer-requires : goal.push_resolved-answer-requires
push_resolved-answer-requires g c = of_text c.args.contents.now c.in-Ok.resolved c.in-Ok.ensures.ok

pub returns-in-Ok : goal.returns-in-Ok
returns-in-Ok g c =
    says_of c.push_resolved-answer.result (StandsFor c.args.contents.now) c.in-Ok.resolved c.args.out.now.items
    c.push_resolved-answer.new.out.items c.in-Ok.ensures.ok c.push_resolved-answer.ensures
