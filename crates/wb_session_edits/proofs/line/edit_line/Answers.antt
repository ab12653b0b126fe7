use Rattle.std.proofs.Common.{◌∙◌}
use Rattle.wb_session_edits.proofs.LineLemmas.{line_read}
use Rattle.wb_session_edits.proofs.line.edit_line.Goals as goal

pub returns-in-Ok-from_slice-clause-read : goal.returns-in-Ok-from_slice-clause-read
returns-in-Ok-from_slice-clause-read c =
    line_read c.args.text.now _ _ _ _ _ _ c.in-Ok.ensures.read c.in-Ok-ending.ensures.read (c.in-Ok-from_slice.ensures.ok ∙ c.deref.ensures.value)
