use Rattle.wb_eval_theory.proofs.RuleLemmas.{rule_read_in}
use Rattle.wb_eval_theory.proofs.laws.rule_law.Goals as goal

pub returns : goal.returns
returns c = rule_read_in
