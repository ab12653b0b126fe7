use Rattle.std.proofs.Common.{None}
use Rattle.wb_explain_kinds.specs.Said.{SaysOf}
use Rattle.wb_explain_kinds.proofs.SaysLemmas.{host_says, on_ok}
use Rattle.wb_explain_kinds.proofs.kinds.push_host.Goals as goal

pub returns-in-Ok : goal.returns-in-Ok
returns-in-Ok g c =
    on_ok c.push_mismatch-answer.result _
    (SaysOf c.args.operations.now.signatures None c.args.source.now.contents.now c.args.out.now.items c.push_mismatch-answer.new.out.items)
    (host_says c.args.operations.now.signatures c.args.source.now.contents.now c.args.out.now.items c.push_mismatch-answer.new.out.items
    c.in-Ok.resolved c.in-Ok.ensures.ok)
    c.push_mismatch-answer.ensures
