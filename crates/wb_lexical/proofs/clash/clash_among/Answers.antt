use Rattle.wb_lexical.proofs.FoundLemmas.{shares_none}
use Rattle.wb_lexical.proofs.clash.clash_among.Goals as goal

pub returns-in-None-clause-none : goal.returns-in-None-clause-none
returns-in-None-clause-none c is = shares_none c.args.terminals.now c.args.pairs.now (rw c.in-None.is at c.in_ok-shared.ensures)
