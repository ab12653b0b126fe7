use Rattle.wb_lemmas.proofs.Members.{contains_at}
use Rattle.wb_flow.proofs.check.check_production.Goals as goal

pub graph_of-requires-clause-listed : goal.graph_of-requires-clause-listed
graph_of-requires-clause-listed c =
    contains_at c.args.scope.now.attributes.now.productions c.args.production.now c.args.number c.requires.there

pub check_graph-answer-requires : goal.check_graph-answer-requires
check_graph-answer-requires c = record {
  attribution = c.requires.attribution;
  index = c.requires.index;
  there = c.requires.there;
  graph = c.in_ok-graph.ensures;
}
