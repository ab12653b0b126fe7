use Rattle.wb_compose_theory_language.proofs.SpelledLemmas.{name_bytes}
use Rattle.wb_compose_theory_language.proofs.laws.name_law.Goals as goal

pub returns : goal.returns
returns c = name_bytes
