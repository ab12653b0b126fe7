use Rattle.wb_recheck_text.proofs.ReservedLemmas.{reserved_answer}
use Rattle.wb_recheck_text.proofs.reserved.is_reserved.Goals as goal

pub returns : goal.returns
returns c = reserved_answer c.is_among.result c.args.text.now c.is_among.ensures
