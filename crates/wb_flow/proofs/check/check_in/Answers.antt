use Rattle.wb_lemmas.proofs.Refusals.{handed_on}
use Rattle.wb_flow.specs.Inner.Sources.{RefusesForward}
use Rattle.wb_flow.specs.Refusals.{IsTrueFlowRefusal}
use Rattle.wb_flow.proofs.CheckLemmas.{forward_refused}
use Rattle.wb_flow.proofs.check.check_in.Goals as goal

pub returns-in_err-check_forward_needs-clause-refused : goal.returns-in_err-check_forward_needs-clause-refused
returns-in_err-check_forward_needs-clause-refused c =
    let a = c.args.scope.now.attributes.now in
    handed_on (RefusesForward a) (IsTrueFlowRefusal a) c.from_residual.result c.in_err-check_forward_needs.field-0.0
    c.from_residual.ensures.1 (forward_refused a) c.in_err-check_forward_needs.ensures.refused
