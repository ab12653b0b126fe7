use Rattle.wb_compose.proofs.BridgedLemmas.{bridged_kernels}
use Rattle.wb_compose.proofs.RuleLemmas.{rule_at_prefixes}
use Rattle.wb_compose.proofs.laws.kernels_law.Goals as goal

pub returns : goal.returns
returns c = record { same = bridged_kernels; rule = rule_at_prefixes }
