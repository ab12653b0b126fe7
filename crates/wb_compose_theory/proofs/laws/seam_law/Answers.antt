use Rattle.wb_compose_theory.proofs.EnvelopeLemmas.{certificate_seam}
use Rattle.wb_compose_theory.proofs.laws.seam_law.Goals as goal

pub returns : goal.returns
returns c = λ g k up phi_of w e r s both ok x fit. certificate_seam both ok x fit
