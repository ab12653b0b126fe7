use Rattle.wb_automata.proofs.AnswerLemmas.{start_pairs, start_walked}
use Rattle.wb_automata.proofs.walk.add_starts.Goals as goal

pub add_group-requires-clause-pairs : goal.add_group-requires-clause-pairs
add_group-requires-clause-pairs c = start_pairs c.args.seeds.now.places.now c.args.seeds.now.pairs.now c.args.groups.now.met
    c.met_starts.new.met c.in_ok-next.next c.requires.seeds c.in_ok-next.ensures

pub returns : goal.returns
returns c = start_walked c.args.seeds.now.places.now c.args.seeds.now.pairs.now c.args.groups.now
    (record {
      alloc = c.args.groups.now.alloc;
      met = c.met_starts.new.met;
      pairs = c.args.groups.now.pairs;
      predecessors = c.args.groups.now.predecessors;
    }) c.add_group.new.groups c.in_ok-next.next c.add_group.result c.requires.small c.requires.seeds c.requires.met c.requires.pairs
    c.requires.predecessors c.in_ok-next.ensures c.add_group.ensures
