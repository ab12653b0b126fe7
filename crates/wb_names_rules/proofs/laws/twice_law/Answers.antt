use Rattle.wb_names_rules.proofs.TwiceLemmas.{each_shown}
use Rattle.wb_names_rules.proofs.laws.twice_law.Goals as goal

pub returns : goal.returns
returns c = each_shown
