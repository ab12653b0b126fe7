use Rattle.std.proofs.Common.{sym}
use Rattle.wb_session_edits.proofs.PartLemmas.{high_unknown}
use Rattle.wb_session_edits.proofs.string_part.hexadecimal.Goals as goal

pub returns-in-None-hex_value-clause-stopped : goal.returns-in-None-hex_value-clause-stopped
returns-in-None-hex_value-clause-stopped c =
    high_unknown c.args.text.now c.in-Some.after.now c.in-Some.digit c.in-Some.ensures (sym c.in-None-hex_value.ensures.value)
