use Rattle.wb_automata.specs.Inner.Chains.{lists_of}
use Rattle.wb_automata.proofs.ChainLemmas.{IsReadOff}
use Rattle.wb_automata.proofs.chains.read_back.Given as goal

abbrev pub invariant-back : goal.invariant-back
invariant-back l = IsReadOff (lists_of l.links) l.number l.at l.all.items

abbrev pub decreases-back : goal.decreases-back
decreases-back l = l.at
