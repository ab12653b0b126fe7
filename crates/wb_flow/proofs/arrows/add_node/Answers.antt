use Rattle.std.proofs.Common.{sym, ◌∙◌}
use Rattle.std.proofs.lemmas.Result.{on_ok_weaker}
use Rattle.wb_flow.proofs.KindLemmas.{read_one, read_none}
use Rattle.wb_flow.proofs.arrows.add_node.Goals as goal

pub returns-in_default : goal.returns-in_default
returns-in_default c = read_none c.args.arrows.now.items c.args.from c.args.node.now (sym c.read.ensures ∙ c.in_default.is)

pub returns : goal.returns
returns c = on_ok_weaker c.push.result
    (read_one c.args.arrows.now.items c.push.new.list.items c.args.from c.args.node.now c.in-Some.to (sym c.read.ensures ∙ c.in-Some.is))
    c.push.ensures.ok
