use Rattle.wb_names_theory.specs.Uses.{node_uses}
use Rattle.wb_names_lists.proofs.ListLemmas.{flat_map_next, flat_map_all}
use Rattle.wb_names_lists.proofs.uses.add_nodes.Goals as goal

pub nodes-preserved : goal.nodes-preserved
nodes-preserved c =
    flat_map_next (node_uses c.args.production.now)
    c.args.nodes.now c.nodes.node-index c.node-item.result c.args.out.now.items c.nodes.out.items c.add_node.new.out.items
    c.nodes.invariant c.nodes-test.true c.node-item.is c.in_ok-add_node.ensures

pub returns : goal.returns
returns c =
    flat_map_all (node_uses c.args.production.now)
    c.args.nodes.now c.nodes.node-index c.args.out.now.items c.nodes.out.items c.nodes.invariant c.nodes-test.false
