use Rattle.wb_explain_flows_lists.proofs.LackLemmas.{read_of_node}
use Rattle.wb_explain_flows_lists.proofs.handed.add_node.Goals as goal

pub returns-in_default : goal.returns-in_default
returns-in_default c = λ before. before

pub add_read-requires-clause-read : goal.add_read-requires-clause-read
add_read-requires-clause-read c =
    read_of_node c.args.spot.now.production.now c.args.at c.args.node.now c.in-Read.label c.in-Read.attribute c.in-Read.is c.requires.rule
