use Rattle.wb_compose_theory_language.proofs.WithdrawnExist.{law}
use Rattle.wb_compose_theory_language.proofs.laws.withdrawn_law.Goals as goal

pub returns : goal.returns
returns c = law
