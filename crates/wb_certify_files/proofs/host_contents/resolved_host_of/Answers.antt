use Rattle.wb_lemmas.proofs.Refusals.{handed_on}
use Rattle.wb_certify_files.specs.Unresolved.{IsUnresolved}
use Rattle.wb_certify_files.proofs.host_contents.resolved_host_of.Goals as goal

pub returns-in_err-spec-clause-refused : goal.returns-in_err-spec-clause-refused
returns-in_err-spec-clause-refused c =
    let R = IsUnresolved c.args.contents.now in
    handed_on R R c.from_residual.result c.in_err-spec.field-0.0 c.from_residual.ensures.1 (λ f p. p) c.in_err-spec.ensures.refused

pub returns-clause-ok : goal.returns-clause-ok
returns-clause-ok c = c.resolved_of-answer.ensures.ok c.args.contents.now c.in_ok-spec.ensures.ok

pub returns-clause-refused : goal.returns-clause-refused
returns-clause-refused c = c.resolved_of-answer.ensures.refused c.args.contents.now c.in_ok-spec.ensures.ok
