use Rattle.wb_automata.proofs.CommonLemmas.{seeds_in}
use Rattle.wb_automata.proofs.common_texts.met_from.Goals as goal

pub all_met-requires-clause-pairs : goal.all_met-requires-clause-pairs
all_met-requires-clause-pairs c = rw (c.as_slice.ensures.value, c.as_slice-2.ensures.value, c.in_ok-seeds.ensures.seeds)
    (seeds_in c.args.machine.now c.requires.starts c.args.pairs.now c.requires.pairs)
