use Rattle.wb_compose_theory_language.proofs.LanguageLemmas.{is_written}
use Rattle.wb_compose_theory_language.proofs.laws.written_law.Goals as goal

pub returns : goal.returns
returns c = is_written
