use Rattle.std.proofs.Common.{sym, subst, take, ◌+◌}
use Rattle.std.specs.List.{AllZip}
use Rattle.wb_names_rows.specs.Nodes.{IsFoundNode, NodeIsThere}
use Rattle.wb_names_rows.proofs.ZipLemmas.{zip_more, zip_all}
use Rattle.wb_names_rows.proofs.node.written_nodes.Goals as goal

pub loop-node-preserved : goal.loop-node-preserved
loop-node-preserved c =
    subst (AllZip (IsFoundNode c.args.scope.now c.args.labels.now) (take (c.loop-node.node-index + 1) c.args.nodes.now)) (sym
    c.in_ok-push.ensures.ok)
    (zip_more (IsFoundNode c.args.scope.now c.args.labels.now) c.args.nodes.now c.loop-node.made.items c.loop-node.node-index
    c.node-item.result
    c.in_ok-found.found c.loop-node.invariant c.loop-node-test.true c.node-item.is c.in_ok-found.ensures)

pub written_node-requires : goal.written_node-requires
written_node-requires c =
    subst (NodeIsThere c.args.scope.now c.args.labels.now) (sym c.node-item.is)
    (c.requires c.loop-node.node-index c.node-item.result c.loop-node-test.true)

pub returns : goal.returns
returns c =
    subst (AllZip (IsFoundNode c.args.scope.now c.args.labels.now) c.args.nodes.now) (sym c.from_vec.ensures)
    (zip_all (IsFoundNode c.args.scope.now c.args.labels.now) c.args.nodes.now c.loop-node.made.items c.loop-node.node-index
    c.loop-node.invariant c.loop-node-test.false)
