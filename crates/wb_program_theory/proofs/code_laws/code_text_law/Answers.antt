use Rattle.wb_program_theory.proofs.CodeTexts.{begins}
use Rattle.wb_program_theory.proofs.code_laws.code_text_law.Goals as goal

pub returns : goal.returns
returns c = begins
