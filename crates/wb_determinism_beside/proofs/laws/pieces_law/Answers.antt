use Rattle.wb_determinism_beside.proofs.PieceLemmas.{images_same, pieces_are, same_extensible}
use Rattle.wb_determinism_beside.proofs.laws.pieces_law.Goals as goal

pub returns-clause-pieces : goal.returns-clause-pieces
returns-clause-pieces c = pieces_are

pub returns-clause-extensible : goal.returns-clause-extensible
returns-clause-extensible c = same_extensible

pub returns-clause-images : goal.returns-clause-images
returns-clause-images c = images_same
