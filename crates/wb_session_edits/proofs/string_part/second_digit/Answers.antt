use Rattle.std.proofs.Common.{◌∙◌, sym}
use Rattle.wb_session_edits.proofs.PartLemmas.{second_known, second_unknown}
use Rattle.wb_session_edits.proofs.string_part.second_digit.Goals as goal

pub returns-in-Some-hex_value-clause-read : goal.returns-in-Some-hex_value-clause-read
returns-in-Some-hex_value-clause-read c =
    second_known c.args.text.now c.in-Some.after.now c.args.first_digit c.args.high c.in-Some.digit c.in-Some-hex_value.low c.requires.value
    c.in-Some.ensures (sym c.in-Some-hex_value.ensures.value)

pub returns-in-None-hex_value-clause-stopped : goal.returns-in-None-hex_value-clause-stopped
returns-in-None-hex_value-clause-stopped c =
    second_unknown c.args.text.now c.in-Some.after.now c.args.first_digit c.args.high c.in-Some.digit c.requires.value c.in-Some.ensures
    (sym c.in-None-hex_value.ensures.value)
