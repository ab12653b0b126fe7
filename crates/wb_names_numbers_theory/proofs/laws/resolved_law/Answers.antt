use Rattle.wb_names_numbers_theory.proofs.AllResolved.{gives_resolved}
use Rattle.wb_names_numbers_theory.proofs.laws.resolved_law.Goals as goal

pub returns : goal.returns
returns c = gives_resolved
