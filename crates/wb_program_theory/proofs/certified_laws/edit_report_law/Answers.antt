use Rattle.wb_program_theory.proofs.EditReports.{have_edit_report}
use Rattle.wb_program_theory.proofs.certified_laws.edit_report_law.Goals as goal

pub returns : goal.returns
returns c = have_edit_report c.one_extension_answer_law.ensures c.header_law.ensures
