-- The number is that of the refusal.
use Rattle.wb_library.specs.Calls.{refused}
use Rattle.wb_library.proofs.walking.wb_answer.Goals as goal

pub returns-in-Err-clause-answer : goal.returns-in-Err-clause-answer
returns-in-Err-clause-answer c = refused c.in-Err.refusal c.number.ensures c.in-Err.ensures.1.0
