use Rattle.std.proofs.lemmas.Result.{on_ok_weaker}
use Rattle.wb_explain_flows.proofs.SaidLemmas.{said_missing}
use Rattle.wb_explain_flows.proofs.said.say_missing.Goals as goal

pub returns : goal.returns
returns c = on_ok_weaker c.push_missing.result
    (said_missing c.args.told.now.source.now c.args.told.now.scope.now.attributes.now c.args.attributes.now c.requires.same c.args.out.now.items
    c.push_missing.new.out.items) c.push_missing.ensures
