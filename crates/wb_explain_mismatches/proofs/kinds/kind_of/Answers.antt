use Rattle.wb_explain_mismatches.proofs.KnownLemmas.{of_node}
use Rattle.wb_explain_mismatches.proofs.kinds.kind_of.Goals as goal

pub returns-in-Label : goal.returns-in-Label
returns-in-Label c =
    of_node c.args.context.now.attributes.now c.args.context.now.operations.now c.args.context.now.production.now c.args.kinds.now
    c.args.node.now _ c.place_kind.result c.in-Label.is c.place_kind.ensures

pub returns-in-If : goal.returns-in-If
returns-in-If c =
    of_node c.args.context.now.attributes.now c.args.context.now.operations.now c.args.context.now.production.now c.args.kinds.now
    c.args.node.now _ c.kind_chosen.result c.in-If.is c.kind_chosen.ensures
