use Rattle.wb_program_theory.proofs.ReadingReports.{have_reading_report}
use Rattle.wb_program_theory.proofs.reading_laws.reading_report_law.Goals as goal

pub returns : goal.returns
returns c = have_reading_report c.one_extension_answer_law.ensures c.header_law.ensures
