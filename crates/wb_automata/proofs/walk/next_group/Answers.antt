use Rattle.wb_automata.specs.Inner.Pairs.{met_of}
use Rattle.wb_automata.proofs.AnswerLemmas.{group_pairs}
use Rattle.wb_automata.proofs.walk.next_group.Goals as goal

pub meet_after-requires-clause-pairs : goal.meet_after-requires-clause-pairs
meet_after-requires-clause-pairs c = group_pairs c.args.seeds.now.places.now c.args.seeds.now.pairs.now (met_of c.args.groups.now)
    c.args.group c.row-pairs.result.now c.requires.met c.requires.group c.row-pairs.ensures
