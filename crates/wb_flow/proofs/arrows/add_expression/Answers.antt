use Rattle.std.proofs.Common.{◌≤◌, length, arith}
use Rattle.wb_flow.specs.Inner.Arrows.{IsReadArrow}
use Rattle.wb_flow.proofs.AddingLemmas.{read_item, adds_start, adds_more, adds_all}
use Rattle.wb_flow.proofs.arrows.add_expression.Goals as goal

pub nodes-init : goal.nodes-init
nodes-init c = adds_start c.args.arrows.now.items c.args.nodes.now (IsReadArrow c.args.from)

pub nodes-preserved : goal.nodes-preserved
nodes-preserved c =
    adds_more c.args.arrows.now.items c.nodes.arrows.items c.add_node.new.arrows.items c.args.nodes.now (IsReadArrow c.args.from)
    c.nodes.node-index c.node-item.result (read_item c.args.nodes.now c.nodes.node-index c.node-item.result c.nodes-test.true c.node-item.is)
    c.nodes.invariant c.in_ok-add_node.ensures

pub returns : goal.returns
returns c =
    let ended : length c.args.nodes.now ≤ c.nodes.node-index = omega arith in
    adds_all c.args.arrows.now.items c.nodes.arrows.items c.args.nodes.now (IsReadArrow c.args.from) c.nodes.node-index ended c.nodes.invariant
