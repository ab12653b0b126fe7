use Rattle.wb_eval_root.proofs.AskedLemmas.{asked_read}
use Rattle.wb_eval_root.proofs.asked.asked_on.Goals as goal

pub returns : goal.returns
returns c =
    asked_read c.args.attributes.now c.parts.result.now c.parts.ensures.whole c.parts.ensures.parts c.args.name.now
    c.args.nonterminal c.free_on.result c.free_on.ensures
