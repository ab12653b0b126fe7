use Rattle.wb_program_theory.proofs.RunReports.{have_run_report}
use Rattle.wb_program_theory.proofs.certified_laws.run_report_law.Goals as goal

pub returns : goal.returns
returns c = have_run_report c.one_extension_answer_law.ensures c.header_law.ensures
