use Rattle.wb_compose.proofs.BridgedLemmas.{bridged_pieces}
use Rattle.wb_compose.proofs.laws.piece_law.Goals as goal

pub returns : goal.returns
returns c = bridged_pieces
