use Rattle.wb_reading_theory.proofs.MarkerLemmas.{one_marker}
use Rattle.wb_reading_theory.proofs.laws.marker_law.Goals as goal

pub returns : goal.returns
returns c = one_marker
