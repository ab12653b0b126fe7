use Rattle.wb_explain_terms.proofs.PassLemmas.{passed, stands_passes}
use Rattle.wb_explain_terms.proofs.coming.is_passed_by.Goals as goal

pub returns-in-Ok : goal.returns-in-Ok
returns-in-Ok c = stands_passes c.args.signatures.now c.args.text.now c.args.at _ c.in-Ok.ensures.only

pub returns-in-Err : goal.returns-in-Err
returns-in-Err c = passed c.args.signatures.now c.args.text.now _ c.args.at c.passes.result c.in-Err.ensures.refused c.in-Err.ensures.only c.passes.ensures
