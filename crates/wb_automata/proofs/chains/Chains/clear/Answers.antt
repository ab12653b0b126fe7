use Rattle.wb_automata.proofs.ChainLemmas.{lists_none}
use Rattle.wb_automata.proofs.chains.Chains.clear.Goals as goal

pub returns : goal.returns
returns c = rw (c.clear.ensures.items) lists_none
