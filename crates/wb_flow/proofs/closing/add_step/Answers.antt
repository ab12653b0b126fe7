use Rattle.std.proofs.lemmas.Result.{on_ok_weaker}
use Rattle.wb_flow.proofs.ClosingLemmas.{no_step, one_step}
use Rattle.wb_flow.proofs.closing.add_step.Goals as goal

pub returns-then-from-to : goal.returns-then-from-to
returns-then-from-to c = no_step c.args.steps.now.items c.args.from c.args.to c.if-from-to.true

pub returns : goal.returns
returns c = on_ok_weaker c.push.result
    (one_step c.args.steps.now.items c.push.new.list.items c.args.from c.args.to c.if-from-to.false) c.push.ensures.ok
