use Rattle.wb_lemmas.proofs.Refusals.{handed_on}
use Rattle.wb_certify_files.specs.Specifications.{IsHeaderRefusal}
use Rattle.wb_certify_files.proofs.header.extension_spec_of.Goals as goal

pub returns-in_err-spec-clause-refused : goal.returns-in_err-spec-clause-refused
returns-in_err-spec-clause-refused c =
    let R = IsHeaderRefusal c.args.host.now c.args.contents.now in
    handed_on R R c.from_residual.result c.in_err-spec.field-0.0 c.from_residual.ensures.1 (λ f p. p)
    (c.in_err-spec.ensures.refused c.args.host.now)

pub returns-in-Err-clause-refused : goal.returns-in-Err-clause-refused
returns-in-Err-clause-refused c = c.in-Err.ensures.refused c.args.contents.now c.in_ok-spec.ensures.ok
