use Rattle.wb_program_words.proofs.PartLemmas.{cut_some, cut_none}
use Rattle.wb_program_words.proofs.options.cut.Goals as goal

pub returns-clause-some : goal.returns-clause-some
returns-clause-some c = cut_some c.args.option.now c.split_once.result c.split_once.ensures.cases

pub returns-clause-none : goal.returns-clause-none
returns-clause-none c = cut_none c.args.option.now c.split_once.result c.split_once.ensures.cases
