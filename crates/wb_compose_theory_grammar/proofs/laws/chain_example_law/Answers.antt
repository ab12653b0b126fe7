use Rattle.wb_compose_theory_grammar.proofs.ChainExampleLemmas.{certified_chains, marker_ahead, new_kernel}
use Rattle.wb_compose_theory_grammar.proofs.laws.chain_example_law.Goals as goal

pub returns : goal.returns
returns c = record { certified = certified_chains; new_kernel = new_kernel; marker = marker_ahead }
