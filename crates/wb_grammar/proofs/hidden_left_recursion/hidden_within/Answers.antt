use Rattle.std.proofs.lemmas.List.Elements.{All-contains}
use Rattle.wb_graph.specs.Graphs.{Edge, IsEdgeBelow}
use Rattle.wb_grammar.proofs.TogetherLemmas.{within_found}
use Rattle.wb_grammar.proofs.hidden_left_recursion.hidden_within.Goals as goal

pub returns : goal.returns
returns c =
    within_found c.args.count c.args.corners.now c.args.hidden.now c.in_ok-components.components c.in_ok-components.ensures
    (λ a b h. let e : Edge = (a, b) in let below : IsEdgeBelow c.args.count e =
    All-contains (IsEdgeBelow c.args.count) c.args.hidden.now e c.requires.hidden h in (below.0, below.1, c.requires.within a b h))
    c.first_together.result c.first_together.ensures
