use Rattle.wb_session_edits.proofs.PartLemmas.{part_line_end}
use Rattle.wb_session_edits.proofs.string_part.string_part.Goals as goal

pub returns-then-byte-eq10-clause-stopped : goal.returns-then-byte-eq10-clause-stopped
returns-then-byte-eq10-clause-stopped c =
    part_line_end c.args.text.now c.in-Some.after.now c.in-Some.byte c.in-Some.ensures c.if-byte-eq10.true
