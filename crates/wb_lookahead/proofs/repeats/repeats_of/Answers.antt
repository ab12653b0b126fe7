use Rattle.wb_lookahead.proofs.RestRows.{repeats_start}
use Rattle.wb_lookahead.proofs.repeats.repeats_of.Goals as goal

pub productions-init : goal.productions-init
productions-init c = repeats_start c.args.grammar.now c.in_ok-sets.sets.items
    (rw (← c.nonterminals.ensures, ← c.in_ok-lookahead_count.ensures.count) c.in_ok-sets.ensures)
