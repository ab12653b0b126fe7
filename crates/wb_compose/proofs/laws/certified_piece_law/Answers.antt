use Rattle.wb_compose.proofs.CertifiedLemmas.{certified_piece}
use Rattle.wb_compose.proofs.laws.certified_piece_law.Goals as goal

pub returns : goal.returns
returns c = certified_piece
