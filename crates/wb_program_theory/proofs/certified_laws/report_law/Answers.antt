use Rattle.wb_program_theory.proofs.ReportsExist.{have_reports}
use Rattle.wb_program_theory.proofs.certified_laws.report_law.Goals as goal

pub returns : goal.returns
returns c = have_reports c.one_extension_answer_law.ensures c.header_law.ensures
