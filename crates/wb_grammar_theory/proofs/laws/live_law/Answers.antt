use Rattle.wb_grammar_theory.proofs.LiveLemmas.{reduced_live}
use Rattle.wb_grammar_theory.proofs.laws.live_law.Goals as goal

pub returns : goal.returns
returns c = reduced_live
