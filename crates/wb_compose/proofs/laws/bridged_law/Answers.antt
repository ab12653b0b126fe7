use Rattle.wb_compose.proofs.BridgedLemmas.{certified_is_bridged, refused_is_bridged}
use Rattle.wb_compose.proofs.laws.bridged_law.Goals as goal

pub returns : goal.returns
returns c = record { certified = certified_is_bridged; refused = refused_is_bridged }
