use Rattle.wb_program_words.proofs.OneAsked.{one_asked}
use Rattle.wb_program_words.proofs.laws.one_asked_law.Goals as goal

pub returns : goal.returns
returns c = one_asked
