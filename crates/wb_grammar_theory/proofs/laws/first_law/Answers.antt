use Rattle.wb_grammar_theory.proofs.DerivesLemmas.{First-append}
use Rattle.wb_grammar_theory.proofs.laws.first_law.Goals as goal

pub returns : goal.returns
returns c = First-append
