use Rattle.wb_program_theory.proofs.CodeLemmas.{one_code}
use Rattle.wb_program_theory.proofs.code_laws.one_code_law.Goals as goal

pub returns : goal.returns
returns c =
    one_code c.one_extension_answer_law.ensures c.header_law.ensures c.extension_refusals_law.ensures c.one_status_law.ensures
