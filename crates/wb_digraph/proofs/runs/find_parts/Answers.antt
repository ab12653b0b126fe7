use Rattle.wb_digraph.proofs.RunLemmas.{are_parts}
use Rattle.wb_digraph.proofs.runs.find_parts.Goals as goal

pub returns : goal.returns
returns c =
    are_parts c.args.graph.now.edges.now c.args.graph.now.components.now.numbers c.args.graph.now.firsts.now c.args.found.now c.args.group
    c.clear.new.self.items c.add_firsts.new.parts.items c.add_found.new.parts.items c.clear.ensures.items c.in_ok-add_firsts.ensures
    c.in_ok-add_found.ensures
