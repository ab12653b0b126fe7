use Rattle.wb_compose_theory.proofs.NumberLemmas.{kernel_renamed, lookahead_renamed, terminal_renamed}
use Rattle.wb_compose_theory.proofs.RenamingLemmas.{valid_renamed}
use Rattle.wb_compose_theory.proofs.laws.renaming_law.Goals as goal

pub returns : goal.returns
returns c g w part r n = record {
  valid = valid_renamed g w part r n;
  kernel = kernel_renamed n;
  lookahead = lookahead_renamed n;
  terminal = terminal_renamed n;
}
