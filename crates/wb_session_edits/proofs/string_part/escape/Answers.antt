use Rattle.std.proofs.Common.{sym}
use Rattle.wb_session_edits.proofs.PartLemmas.{escape_known, escape_unknown}
use Rattle.wb_session_edits.proofs.string_part.escape.Goals as goal

pub returns-in-Some-escaped_byte-clause-read : goal.returns-in-Some-escaped_byte-clause-read
returns-in-Some-escaped_byte-clause-read c =
    escape_known c.args.text.now c.in-Some.after.now c.in-Some.byte c.in-Some-escaped_byte.stands c.in-Some.ensures
    (sym c.in-Some-escaped_byte.ensures)

pub returns-in-None-escaped_byte-clause-stopped : goal.returns-in-None-escaped_byte-clause-stopped
returns-in-None-escaped_byte-clause-stopped c =
    escape_unknown c.args.text.now c.in-Some.after.now c.in-Some.byte c.in-Some.ensures c.if-byte-eq120.false
    (sym c.in-None-escaped_byte.ensures)
