use Rattle.wb_program_theory.proofs.CompletenessLemmas.{run_comes}
use Rattle.wb_program_theory.proofs.certified_laws.run_comes_law.Goals as goal

pub returns : goal.returns
returns c = run_comes c.one_status_law.ensures c.one_text_law.ensures c.one_extension_answer_law.ensures c.header_law.ensures
