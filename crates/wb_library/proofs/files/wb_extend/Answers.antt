-- The number is that of the refusal.
use Rattle.wb_library.specs.Calls.{stayed}
use Rattle.wb_library.proofs.files.wb_extend.Goals as goal

pub returns-in-Err-clause-answer : goal.returns-in-Err-clause-answer
returns-in-Err-clause-answer c = stayed c.in-Err.refusal c.number.ensures c.in-Err.ensures.1.0 c.in-Err.ensures.1.1.0
