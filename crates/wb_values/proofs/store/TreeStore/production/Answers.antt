use Rattle.std.proofs.Common.{length, ap, arith}
use Rattle.wb_values.specs.Tree.{production_of}
use Rattle.wb_values.proofs.Laid.{length-trees, node-at}
use Rattle.wb_values.proofs.store.TreeStore.production.Goals as goal

pub index-requires : goal.index-requires
index-requires c = omega
    (arith, ap length c.self.view_is, length-trees c.self.inside.nodes.items c.self.inside.children, c.self.inside.nodes.ok.0)

pub returns : goal.returns
returns c = ap production_of
    (node-at c.args.self.now c.self.inside.nodes.items c.self.inside.children c.args.tree.0 c.index.result.now c.self.invariant
    c.self.view_is c.requires c.index.ensures).tree
