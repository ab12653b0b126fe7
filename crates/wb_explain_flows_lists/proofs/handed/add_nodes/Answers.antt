use Rattle.wb_lemmas.proofs.Members.{contains_at}
use Rattle.wb_flow.proofs.AddingLemmas.{read_item}
use Rattle.wb_explain_flows_lists.proofs.LackLemmas.{keeps_both}
use Rattle.wb_explain_flows_lists.proofs.handed.add_nodes.Goals as goal

pub nodes-init : goal.nodes-init
nodes-init c = λ before. before

pub add_node-requires-clause-rule : goal.add_node-requires-clause-rule
add_node-requires-clause-rule c =
    let node = c.node-item.result in (
      c.args.nodes.now,
      c.requires.rule,
      contains_at c.args.nodes.now node c.nodes.node-index
          (read_item c.args.nodes.now c.nodes.node-index node c.nodes-test.true c.node-item.is),
    )

pub nodes-preserved : goal.nodes-preserved
nodes-preserved c =
    keeps_both c.args.spot.now.scope.now.attributes.now c.args.found.now.items c.nodes.found.items c.add_node.new.found.items
    c.nodes.invariant c.in_ok-add_node.ensures
