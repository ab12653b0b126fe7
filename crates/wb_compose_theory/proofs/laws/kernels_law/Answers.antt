use Rattle.wb_compose_theory.proofs.SeamLemmas.{by_kernels, host_kernel}
use Rattle.wb_compose_theory.proofs.laws.kernels_law.Goals as goal

pub returns : goal.returns
returns c = record {
  same = λ g k up phi_of w e r s seam. host_kernel seam;
  lookaheads = λ g k up phi_of w e r s seam. by_kernels seam;
}
