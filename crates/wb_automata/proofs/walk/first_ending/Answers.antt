use Rattle.std.proofs.Common.{◌∙◌, refl, subst, arith}
use Rattle.wb_automata.specs.Inner.Pairs.{HasEnds, met_of}
use Rattle.wb_automata.proofs.AnswerLemmas.{apart_more, group_pairs, group_within, groups_done}
use Rattle.wb_automata.proofs.WalkedLemmas.{first_ending, no_ending}
use Rattle.wb_automata.proofs.walk.first_ending.Goals as goal

pub row-requires : goal.row-requires
row-requires c = group_within c.args.seeds.now.places.now c.args.seeds.now.pairs.now c.groups.groups c.groups.group c.len.result
    c.groups.invariant.walked.begun.are_met (c.len.ensures ∙ c.groups.groups.predecessors.ok.0) c.groups-test.true

pub ends_in-requires : goal.ends_in-requires
ends_in-requires c = group_pairs c.args.seeds.now.places.now c.args.seeds.now.pairs.now (met_of c.groups.groups) c.groups.group
    c.row.result.now c.groups.invariant.walked.begun.are_met (group_within c.args.seeds.now.places.now c.args.seeds.now.pairs.now c.groups.groups c.groups.group c.len.result
    c.groups.invariant.walked.begun.are_met (c.len.ensures ∙ c.groups.groups.predecessors.ok.0) c.groups-test.true) c.row.ensures

pub returns-in-Some : goal.returns-in-Some
returns-in-Some c = first_ending c.args.seeds.now.places.now c.args.seeds.now.pairs.now (met_of c.groups.groups) c.groups.group
    c.groups.invariant.walked.begun c.in-Some.left c.in-Some.right (group_within c.args.seeds.now.places.now c.args.seeds.now.pairs.now c.groups.groups c.groups.group c.len.result
    c.groups.invariant.walked.begun.are_met (c.len.ensures ∙ c.groups.groups.predecessors.ok.0) c.groups-test.true)
    (subst (λ z. HasEnds c.args.seeds.now.places.now z c.in-Some.left c.in-Some.right) c.row.ensures c.in-Some.ensures.some)
    c.groups.invariant.apart

pub go_on-requires-clause-group : goal.go_on-requires-clause-group
go_on-requires-clause-group c = group_within c.args.seeds.now.places.now c.args.seeds.now.pairs.now c.groups.groups c.groups.group c.len.result
    c.groups.invariant.walked.begun.are_met (c.len.ensures ∙ c.groups.groups.predecessors.ok.0) c.groups-test.true

pub groups-preserved : goal.groups-preserved
groups-preserved c = record {
  walked = c.in_ok-go_on.ensures.walked;
  apart = apart_more c.args.seeds.now.places.now c.groups.groups.pairs c.go_on.new.groups.pairs c.groups.group c.row.result.now (group_within c.args.seeds.now.places.now c.args.seeds.now.pairs.now c.groups.groups c.groups.group c.len.result
      c.groups.invariant.walked.begun.are_met (c.len.ensures ∙ c.groups.groups.predecessors.ok.0) c.groups-test.true)
      c.in_ok-go_on.ensures.kept c.row.ensures (c.in_default.ensures.none refl) c.groups.invariant.apart;
}

pub returns : goal.returns
returns c = no_ending c.args.seeds.now.places.now c.args.seeds.now.pairs.now (met_of c.groups.groups) c.groups.group
    c.groups.invariant.walked.begun (groups_done c.args.seeds.now.places.now c.args.seeds.now.pairs.now c.groups.groups
    c.groups.group c.len.result c.groups.invariant.walked.begun.are_met (c.len.ensures ∙ c.groups.groups.predecessors.ok.0) (omega arith)) c.groups.invariant.apart
