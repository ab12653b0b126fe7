use Rattle.wb_program_theory.proofs.TreeReports.{have_tree_report}
use Rattle.wb_program_theory.proofs.certified_laws.tree_report_law.Goals as goal

pub returns : goal.returns
returns c = have_tree_report c.one_extension_answer_law.ensures c.header_law.ensures
