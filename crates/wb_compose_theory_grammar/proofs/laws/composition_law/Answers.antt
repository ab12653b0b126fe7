use Rattle.wb_compose_theory_grammar.proofs.CompositionLemmas.{united_composition}
use Rattle.wb_compose_theory_grammar.proofs.laws.composition_law.Goals as goal

pub returns : goal.returns
returns c = united_composition
