use Rattle.wb_compose_theory_language.proofs.LanguageLemmas.{decided}
use Rattle.wb_compose_theory_language.proofs.laws.decided_law.Goals as goal

pub returns : goal.returns
returns c = decided
