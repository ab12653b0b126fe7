use Rattle.wb_program_theory.proofs.CompletenessLemmas.{enough_steps}
use Rattle.wb_program_theory.proofs.certified_laws.enough_steps_law.Goals as goal

pub returns : goal.returns
returns c = enough_steps
