use Rattle.std.proofs.Common.{refl}
use Rattle.std.proofs.lemmas.Result.{on_ok_weaker}
use Rattle.wb_lemmas.proofs.Members.{contains_at}
use Rattle.wb_explain_flows.specs.Reads.{outside}
use Rattle.wb_explain_flows.proofs.ReadLemmas.{there_at}
use Rattle.wb_explain_flows.proofs.StepLemmas.{reads_said}
use Rattle.wb_explain_flows.proofs.reads.push_outside.Goals as goal

pub push_chain-answer-requires-clause-listed : goal.push_chain-answer-requires-clause-listed
push_chain-answer-requires-clause-listed c =
    let a = c.args.told.now.scope.now.attributes.now in
    contains_at a.productions c.in-Some.production.now c.args.number
    (there_at a c.args.number c.in-Some.production.now c.as_slice.result.now c.as_slice.ensures c.in-Some.ensures.lookup.0
    c.in-Some.ensures.lookup.1)

pub returns : goal.returns
returns c =
    let a = c.args.told.now.scope.now.attributes.now in
    let p = c.in-Some.production.now in
    let there = there_at a c.args.number p c.as_slice.result.now c.as_slice.ensures c.in-Some.ensures.lookup.0 c.in-Some.ensures.lookup.1 in
    on_ok_weaker c.push_chain-answer.result
    (reads_said c.args.told.now.source.now a c.args.number p _ c.args.out.now.items c.push_chain-answer.new.out.items there
    (outside c.args.attribute c.args.inherited c.requires.outside c.source_vertex.ensures refl)) c.push_chain-answer.ensures
