use Rattle.wb_certify_files.proofs.OneExtensionAnswer.{one_answer}
use Rattle.wb_certify_files.proofs.laws.one_extension_answer_law.Goals as goal

pub returns : goal.returns
returns c = one_answer c.one_answer_law.ensures c.names_law.ensures
