use Rattle.wb_compose_theory_language.proofs.LanguageExists.{law}
use Rattle.wb_compose_theory_language.proofs.laws.language_law.Goals as goal

pub returns : goal.returns
returns c = law
