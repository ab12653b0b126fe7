use Rattle.wb_automata.proofs.TextLemmas.{IsReadBack}
use Rattle.wb_automata.proofs.text.text_at.Given as goal

abbrev pub invariant-back : goal.invariant-back
invariant-back l = IsReadBack l.predecessors l.state l.at l.bytes.items

abbrev pub decreases-back : goal.decreases-back
decreases-back l = l.at
