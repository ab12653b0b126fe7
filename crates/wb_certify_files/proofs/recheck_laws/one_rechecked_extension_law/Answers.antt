use Rattle.wb_certify_files.proofs.OneRecheckedExtension.{one_answer}
use Rattle.wb_certify_files.proofs.recheck_laws.one_rechecked_extension_law.Goals as goal

pub returns : goal.returns
returns c =
    one_answer c.one_answer_law.ensures c.names_law.ensures c.one_recheck_answer_law.ensures.extension
    c.one_recheck_answer_law.ensures.extension_sort
