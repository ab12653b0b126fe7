use Rattle.wb_compose_theory.proofs.ExampleLemmas.{certified_example}
use Rattle.wb_compose_theory.proofs.ExampleMarkLemmas.{marked_example}
use Rattle.wb_compose_theory.proofs.laws.example_law.Goals as goal

pub returns : goal.returns
returns c = (marked_example, certified_example)
