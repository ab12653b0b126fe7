use Rattle.std.proofs.lemmas.Result.{on_ok_weaker}
use Rattle.wb_explain_flows.proofs.SaidLemmas.{said_unheld}
use Rattle.wb_explain_flows.proofs.said.say_unheld.Goals as goal

pub returns : goal.returns
returns c = on_ok_weaker c.push_unheld.result
    (said_unheld c.args.told.now.source.now c.args.told.now.scope.now.attributes.now c.args.attributes.now c.requires.same c.args.out.now.items
    c.push_unheld.new.out.items) c.push_unheld.ensures
