use Rattle.wb_explain_expected.proofs.PassLemmas.{passed, taken_passes}
use Rattle.wb_explain_expected.proofs.coming.is_passed.Goals as goal

pub returns-in-Ok : goal.returns-in-Ok
returns-in-Ok c = taken_passes _ _ _ c.in-Ok.ensures.ok

pub returns-in-Err : goal.returns-in-Err
returns-in-Err c = passed _ _ _ c.passes-answer.result c.in-Err.ensures.refused c.passes-answer.ensures
