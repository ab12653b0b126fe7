use Rattle.wb_program_theory.proofs.LineReports.{have_certificate_report, have_certify_report, have_check_report, have_compose_report}
use Rattle.wb_program_theory.proofs.LineReports.{have_recheck_report, have_rechecked_extension_report}
use Rattle.wb_program_theory.proofs.certified_laws.line_report_law.Goals as goal

pub returns : goal.returns
returns c = record {
  check = have_check_report;
  certify = have_certify_report;
  compose = have_compose_report c.one_extension_answer_law.ensures c.header_law.ensures;
  certificate = have_certificate_report c.one_extension_answer_law.ensures c.header_law.ensures;
  recheck = have_recheck_report;
  rechecked_extension = have_rechecked_extension_report;
}
