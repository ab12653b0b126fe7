use Rattle.wb_program_theory.proofs.GenerateReports.{have_generate_report}
use Rattle.wb_program_theory.proofs.certified_laws.generate_report_law.Goals as goal

pub returns : goal.returns
returns c = have_generate_report c.one_extension_answer_law.ensures c.header_law.ensures
