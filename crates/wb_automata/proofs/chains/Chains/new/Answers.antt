use Rattle.wb_automata.proofs.ChainLemmas.{lists_none}
use Rattle.wb_automata.proofs.chains.Chains.new.Goals as goal

pub returns : goal.returns
returns c = rw (c.new.ensures.items) lists_none
