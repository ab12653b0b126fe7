use Rattle.std.proofs.Common.{◌∙◌, sym}
use Rattle.wb_session_edits.proofs.ProgressLemmas.{one_list, read_whole}
use Rattle.wb_session_edits.proofs.read.read_edits.Goals as goal

pub returns-in-Ok-clause-only : goal.returns-in-Ok-clause-only
returns-in-Ok-clause-only c other list =
    one_list c.args.text.now other _ list (read_whole c.args.text.now _ c.in-Ok.ensures.read) ∙ sym c.from_vec.ensures
