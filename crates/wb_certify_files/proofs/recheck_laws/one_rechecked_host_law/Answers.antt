use Rattle.wb_certify_files.proofs.OneRecheckedHost.{one_answer}
use Rattle.wb_certify_files.proofs.recheck_laws.one_rechecked_host_law.Goals as goal

pub returns : goal.returns
returns c = one_answer c.one_recheck_answer_law.ensures.host c.one_recheck_answer_law.ensures.host_sort
