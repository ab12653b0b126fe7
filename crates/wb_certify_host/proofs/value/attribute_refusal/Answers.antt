use Rattle.wb_certify_host.proofs.ValueLemmas.{flows_also, flow_refused}
use Rattle.wb_certify_host.proofs.value.attribute_refusal.Goals as goal

pub returns-clause-ok : goal.returns-clause-ok
returns-clause-ok c =
    flows_also c.args.resolved.now c.parts-parts.result.now c.start.result c.check_flow.result c.parts-parts.ensures.parts c.start.ensures
    c.in_ok-check_complete.ensures.ok c.check_flow.ensures.ok

pub returns-clause-refused : goal.returns-clause-refused
returns-clause-refused c =
    flow_refused c.args.resolved.now c.parts-parts.result.now c.start.result c.check_flow.result c.parts-parts.ensures.parts c.start.ensures
    c.in_ok-check_complete.ensures.ok c.check_flow.ensures.refused
