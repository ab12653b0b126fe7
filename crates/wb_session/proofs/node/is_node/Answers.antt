use Rattle.std.proofs.Common.{◌≡◌, ◌<◌, length, rules, subst}
use Rattle.wb_values.specs.Tree.{children_of, count_of, production_of}
use Rattle.wb_values.specs.ValuesIn.{tree_in}
use Rattle.wb_session.specs.Inner.Nodes.{AreFirst}
use Rattle.wb_session.proofs.NodeLemmas.{node_is}
use Rattle.wb_session.proofs.node.is_node.Goals as goal

pub returns : goal.returns
returns c = λ true.
    (let trees = c.args.store.now in
    let children = c.args.children.now in
    let tree = tree_in trees c.args.tree in
    let held : c.args.tree < length trees = search rules in
    let p_is : production_of tree ≡ c.args.production = search rules in
    let size : count_of (children_of tree) ≡ length children = search rules in
    let all : c.children.place ≡ length children = search rules in
    node_is trees c.args.production c.args.tree children held p_is size
    (subst (AreFirst trees (children_of tree) children) all c.children.invariant.first))
