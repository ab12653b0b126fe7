use Rattle.std.proofs.Common.{arith}
use Rattle.wb_automata.specs.Inner.Pairs.{met_of}
use Rattle.wb_automata.proofs.AnswerLemmas.{next_pairs, passed_add}
use Rattle.wb_automata.proofs.walk.go_on_by.Goals as goal

pub add_group-requires-clause-pairs : goal.add_group-requires-clause-pairs
add_group-requires-clause-pairs c = next_pairs c.args.seeds.now.places.now c.args.seeds.now.pairs.now (met_of c.args.groups.now)
    c.args.group c.args.byte c.next_group.new.groups.met c.in_ok-next.next c.requires.met c.requires.group c.in_ok-next.ensures.adds

pub returns : goal.returns
returns c = passed_add c.args.seeds.now.places.now c.args.group c.args.byte c.args.groups.now c.next_group.new.groups
    c.add_group.new.groups c.in_ok-next.next c.add_group.result (omega (arith, c.requires.met.len, c.requires.group))
    c.in_ok-next.ensures.pairs c.in_ok-next.ensures.predecessors c.in_ok-next.ensures.adds c.add_group.ensures
