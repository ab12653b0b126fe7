use Rattle.wb_grammar_theory.specs.States.{IsNext}
use Rattle.wb_grammar_theory.proofs.FlowLemmas.{flows_exact}
use Rattle.wb_grammar_theory.proofs.laws.flows_law.Goals as goal

pub returns : goal.returns
returns c g live count prefix_of states s lt item t = flows_exact g count prefix_of (IsNext g count prefix_of) live states s lt item t
