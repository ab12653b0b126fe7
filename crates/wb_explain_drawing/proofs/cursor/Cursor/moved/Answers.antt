-- One byte after the other.
use Rattle.std.proofs.Common.{arith}
use Rattle.wb_explain_drawing.proofs.cursor.Cursor.moved.Goals as goal

pub bytes-init : goal.bytes-init
bytes-init c = record { reached = c.requires.reached; before = λ low. low }

pub bytes-preserved : goal.bytes-preserved
bytes-preserved c = record { reached = c.after-cursor.ensures.reached; before = λ low. omega (arith, c.after-cursor.ensures.at, c.bytes-test.true) }

pub returns-clause-reached : goal.returns-clause-reached
returns-clause-reached c = c.bytes.invariant.reached

pub returns-clause-at : goal.returns-clause-at
returns-clause-at c = λ low. omega (arith, c.bytes.invariant.before low, c.bytes-test.false)
