use Rattle.wb_compose.proofs.BridgedLemmas.{same_extensible}
use Rattle.wb_compose.proofs.ImageLemmas.{images}
use Rattle.wb_compose.proofs.laws.image_law.Goals as goal

pub returns : goal.returns
returns c = λ host r h g operations bridged. images host r h g operations bridged (same_extensible host r h g operations bridged)
