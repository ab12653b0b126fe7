use Rattle.std.proofs.Common.{◌∙◌, arith}
use Rattle.wb_automata.specs.Inner.Pairs.{met_of}
use Rattle.wb_automata.proofs.AnswerLemmas.{group_within, groups_done}
use Rattle.wb_automata.proofs.WalkedLemmas.{whole_walk}
use Rattle.wb_automata.proofs.walk.walk.Goals as goal

pub go_on-requires-clause-group : goal.go_on-requires-clause-group
go_on-requires-clause-group c = group_within c.args.seeds.now.places.now c.args.seeds.now.pairs.now c.groups.groups c.groups.group c.len.result
    c.groups.invariant.begun.are_met (c.len.ensures ∙ c.groups.groups.predecessors.ok.0) c.groups-test.true

pub returns : goal.returns
returns c = whole_walk c.args.seeds.now.places.now c.args.seeds.now.pairs.now (met_of c.groups.groups) c.groups.group
    c.groups.invariant.begun (groups_done c.args.seeds.now.places.now c.args.seeds.now.pairs.now c.groups.groups
    c.groups.group c.len.result c.groups.invariant.begun.are_met (c.len.ensures ∙ c.groups.groups.predecessors.ok.0) (omega arith))
