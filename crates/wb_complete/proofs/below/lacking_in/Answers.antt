use Rattle.std.proofs.Common.{◌≤◌, length, arith}
use Rattle.wb_lemmas.proofs.Members.{contains_at, place_of}
use Rattle.wb_flow.proofs.AddingLemmas.{read_item}
use Rattle.wb_flow.proofs.EachLemmas.{each_more, each_all}
use Rattle.wb_complete.specs.Inner.Tests.{DefinesRead}
use Rattle.wb_complete.proofs.below.lacking_in.Goals as goal

pub returns-in-Some-clause-some : goal.returns-in-Some-clause-some
returns-in-Some-clause-some c =
    let node = c.node-item.result in
    let there = read_item c.args.nodes.now c.nodes.node-index node c.nodes-test.true c.node-item.is in
    (node, contains_at c.args.nodes.now node c.nodes.node-index there, c.in-Some.ensures.some)

pub nodes-preserved : goal.nodes-preserved
nodes-preserved c =
    let node = c.node-item.result in
    each_more c.args.nodes.now (DefinesRead c.args.scope.now.attributes.now c.args.production.now) c.nodes.node-index node
    (read_item c.args.nodes.now c.nodes.node-index node c.nodes-test.true c.node-item.is) c.nodes.invariant c.in_default.ensures.none

pub returns-clause-none : goal.returns-clause-none
returns-clause-none c node listed =
    let ended : length c.args.nodes.now ≤ c.nodes.node-index = omega arith in
    let (k, at) = place_of c.args.nodes.now node listed in
    each_all c.args.nodes.now (DefinesRead c.args.scope.now.attributes.now c.args.production.now) c.nodes.node-index ended
    c.nodes.invariant k node at
