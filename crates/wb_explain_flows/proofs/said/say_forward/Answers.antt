use Rattle.std.proofs.lemmas.Result.{on_ok_weaker}
use Rattle.wb_explain_flows.proofs.SaidLemmas.{said_reads}
use Rattle.wb_explain_flows.proofs.said.say_forward.Goals as goal

pub returns : goal.returns
returns c = on_ok_weaker c.push_forward.result
    (said_reads c.args.told.now.source.now c.args.told.now.scope.now.attributes.now c.args.attributes.now c.requires.same c.args.out.now.items
    c.push_forward.new.out.items) c.push_forward.ensures
