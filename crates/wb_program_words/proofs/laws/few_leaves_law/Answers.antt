use Rattle.wb_program_words.proofs.FewLeaves.{few_leaves}
use Rattle.wb_program_words.proofs.laws.few_leaves_law.Goals as goal

pub returns : goal.returns
returns c = few_leaves
