use Rattle.wb_automata.specs.Inner.PlainTexts.{IsTextOf}
use Rattle.wb_automata.proofs.plain_text.only_text.Given as goal

abbrev pub invariant-nodes : goal.invariant-nodes
invariant-nodes l = IsTextOf l.node-items l.node-index l.text.items
