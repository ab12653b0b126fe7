use Rattle.wb_certify_files.proofs.OneExtensionAnswer.{one_header}
use Rattle.wb_certify_files.proofs.laws.header_law.Goals as goal

pub returns : goal.returns
returns c = one_header
