use Rattle.wb_determinism_beside.proofs.ListedLemmas.{opened_not_left, opened_not_right}
use Rattle.wb_determinism_beside.proofs.rows.are_opened.Goals as goal

pub returns-in_default : goal.returns-in_default
returns-in_default c = opened_not_left c.args.grammar.now c.args.one c.args.other c.in_default.ensures

pub returns-in_default-opener : goal.returns-in_default-opener
returns-in_default-opener c = opened_not_right c.args.grammar.now c.args.one c.args.other c.in_default-opener.ensures
