use Rattle.wb_flow.proofs.IndexLemmas.{forward_has, forward_none}
use Rattle.wb_flow.proofs.occurrences.Scope.forward_needs.Goals as goal

pub returns-then-nonterminal-nonterminals : goal.returns-then-nonterminal-nonterminals
returns-then-nonterminal-nonterminals c =
    forward_has c.args.self.now.attributes.now c.as_slice-nonterminals.result.now c.as_slice-nonterminals.ensures c.args.nonterminal
    c.index-nonterminals-nonterminal.result c.if-nonterminal-nonterminals.true c.as_slice.result.now c.as_slice.ensures

pub returns-else-nonterminal-nonterminals : goal.returns-else-nonterminal-nonterminals
returns-else-nonterminal-nonterminals c =
    forward_none c.args.self.now.attributes.now c.as_slice-nonterminals.result.now c.as_slice-nonterminals.ensures c.args.nonterminal
    c.if-nonterminal-nonterminals.false
