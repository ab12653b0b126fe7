use Rattle.wb_grammar.proofs.ReducedLemmas.{unproductive_found}
use Rattle.wb_grammar.proofs.reduced.unproductive_in.Goals as goal

pub returns : goal.returns
returns c = unproductive_found c.args.grammar.now c.in_ok-productive.productive c.first_missing.result c.in_ok-productive.ensures
    c.first_missing.ensures
