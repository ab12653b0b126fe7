use Rattle.wb_grammar_theory.proofs.DerivesLemmas.{Derives-from_steps, Steps-from_derives}
use Rattle.wb_grammar_theory.proofs.laws.steps_law.Goals as goal

pub returns : goal.returns
returns c g w v = (Steps-from_derives, Derives-from_steps)
