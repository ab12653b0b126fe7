use Rattle.std.proofs.Common.{refl}
use Rattle.std.proofs.lemmas.Result.{on_ok_weaker}
use Rattle.wb_explain_flows.proofs.StepLemmas.{chain_said}
use Rattle.wb_explain_flows.proofs.steps.push_tested.Goals as goal

pub returns : goal.returns
returns c =
    let a = c.args.found.now.told.now.scope.now.attributes.now in
    let p = c.args.found.now.production.now in
    on_ok_weaker c.push_list.result
    (chain_said c.args.found.now.told.now.source.now a p c.args.found.now.wanted.now.ends c.args.steps.now c.args.out.now.items
    c.push_list.new.out.items (c.if-not-is_chain.ensures.chain refl) (c.if-not-is_chain.ensures.needed refl a p c.requires)) c.push_list.ensures
