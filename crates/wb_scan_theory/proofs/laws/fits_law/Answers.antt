use Rattle.wb_scan_theory.proofs.ShownLemmas.{tree_fits}
use Rattle.wb_scan_theory.proofs.laws.fits_law.Goals as goal

pub returns : goal.returns
returns c = tree_fits
