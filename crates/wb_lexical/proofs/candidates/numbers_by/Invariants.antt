use Rattle.wb_lexical.specs.Inner.Candidates.{AreNumbered}
use Rattle.wb_lexical.proofs.candidates.numbers_by.Given as goal

abbrev pub invariant-terminals : goal.invariant-terminals
invariant-terminals l = AreNumbered l.terminals l.terminal-index l.names l.texts.items
