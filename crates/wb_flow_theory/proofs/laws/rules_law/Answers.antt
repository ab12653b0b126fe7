use Rattle.wb_flow_theory.proofs.RuleLemmas.{one_rule_in}
use Rattle.wb_flow_theory.proofs.laws.rules_law.Goals as goal

pub returns : goal.returns
returns c = one_rule_in
