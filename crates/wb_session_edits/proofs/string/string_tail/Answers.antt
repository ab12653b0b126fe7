use Rattle.wb_session_edits.proofs.BodyLemmas.{decoded_none}
use Rattle.wb_session_edits.proofs.string.string_tail.Goals as goal

pub parts-init : goal.parts-init
parts-init c = decoded_none c.args.text.now _ c.requires

pub returns-in-Err-clause-halted : goal.returns-in-Err-clause-halted
returns-in-Err-clause-halted c = c.in-Err.ensures.halted c.args.text.now c.parts.invariant
