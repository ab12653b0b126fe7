use Rattle.wb_certify_files.proofs.OneHostAnswer.{one_well_defined}
use Rattle.wb_certify_files.proofs.laws.one_well_defined_law.Goals as goal

pub returns : goal.returns
returns c = one_well_defined
