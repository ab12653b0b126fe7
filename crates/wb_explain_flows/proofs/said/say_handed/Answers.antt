use Rattle.std.proofs.lemmas.Result.{on_ok_weaker}
use Rattle.wb_explain_flows.proofs.SaidLemmas.{said_handed}
use Rattle.wb_explain_flows.proofs.said.say_handed.Goals as goal

pub returns : goal.returns
returns c = on_ok_weaker c.push_handed.result
    (said_handed c.args.told.now.source.now c.args.told.now.scope.now.attributes.now c.args.attributes.now c.requires.same c.args.out.now.items
    c.push_handed.new.out.items) c.push_handed.ensures
