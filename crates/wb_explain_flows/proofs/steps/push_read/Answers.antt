use Rattle.std.proofs.lemmas.Result.{on_ok_weaker}
use Rattle.wb_explain_flows.proofs.StepLemmas.{step_read}
use Rattle.wb_explain_flows.proofs.steps.push_read.Goals as goal

pub returns : goal.returns
returns c = on_ok_weaker c.push_place.result (λ shows.
    step_read c.args.told.now.source.now c.args.told.now.scope.now.attributes.now c.args.production.now c.args.step c.args.rule
    c.as_bytes.result.now c.text_of-text.result.now c.args.out.now.items c.push_pair.new.out.items c.extend_from_slice.new.self.items
    c.push_place.new.out.items c.requires c.text_of-text.ensures c.in_ok-push_pair.ensures c.in_ok-extend_from_slice.ensures.items shows)
    c.push_place.ensures
