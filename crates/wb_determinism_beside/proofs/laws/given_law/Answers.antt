use Rattle.wb_determinism_beside.proofs.GivenLemmas.{given_beside}
use Rattle.wb_determinism_beside.proofs.laws.given_law.Goals as goal

pub returns : goal.returns
returns c = λ host r h g is host_reduced reduced images are. given_beside host r h g is images are host_reduced reduced
