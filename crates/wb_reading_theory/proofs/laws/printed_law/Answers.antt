use Rattle.wb_reading_theory.proofs.PrintedLemmas.{value_alike}
use Rattle.wb_reading_theory.proofs.laws.printed_law.Goals as goal

pub returns : goal.returns
returns c = λ s a t is ok extends alone v. value_alike is ok extends alone v
