use Rattle.wb_compose_theory_grammar.proofs.ExampleLemmas.{certified_example}
use Rattle.wb_compose_theory_grammar.proofs.laws.example_law.Goals as goal

pub returns : goal.returns
returns c = certified_example
