use Rattle.wb_grammar.proofs.TogetherLemmas.{none_all, none_more}
use Rattle.wb_grammar.proofs.hidden_left_recursion.first_together.Goals as goal

pub edges-preserved : goal.edges-preserved
edges-preserved c = none_more c.args.components.now c.args.edges.now c.edges.above-index c.of.result c.of-in-edges.result c.of.ensures
    c.of-in-edges.ensures c.if-of.false c.edges.invariant

pub returns : goal.returns
returns c = none_all c.args.components.now c.args.edges.now c.edges.above-index c.edges-test.false c.edges.invariant
