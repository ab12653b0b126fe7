use Rattle.wb_reading_theory.proofs.PrintedLemmas.{asked_alike}
use Rattle.wb_reading_theory.proofs.laws.asked_law.Goals as goal

pub returns : goal.returns
returns c = λ s a t is ok extends alone. asked_alike is ok extends alone
