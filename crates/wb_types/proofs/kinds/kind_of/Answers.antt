use Rattle.wb_types.proofs.NodeLemmas.{of_node, of_attribute}
use Rattle.wb_types.proofs.kinds.kind_of.Goals as goal

pub returns-in-Label : goal.returns-in-Label
returns-in-Label c =
    λ is. of_node c.args.context.now.attributes.now c.args.context.now.operations.now c.args.context.now.production.now c.args.kinds.now
    c.args.node.now _ c.place_kind.result is c.in-Label.is (c.place_kind.ensures is)

pub returns-in-Read : goal.returns-in-Read
returns-in-Read c = λ is. of_attribute c.args.context.now.attributes.now c.args.context.now.operations.now
    c.args.context.now.production.now c.args.kinds.now c.args.node.now c.in-Read.attribute c.attribute_kind.result is c.in-Read.is
    (c.attribute_kind.ensures is)

pub returns-in-If : goal.returns-in-If
returns-in-If c =
    λ is. of_node c.args.context.now.attributes.now c.args.context.now.operations.now c.args.context.now.production.now c.args.kinds.now
    c.args.node.now _ c.kind_chosen.result is c.in-If.is (c.kind_chosen.ensures is)
