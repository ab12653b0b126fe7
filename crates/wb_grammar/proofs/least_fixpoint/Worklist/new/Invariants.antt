use Rattle.std.proofs.Common.{◌≡◌, [], replicate}
use Rattle.wb_grammar.proofs.least_fixpoint.Worklist.new.Given as goal

abbrev pub invariant-nonterminals : goal.invariant-nonterminals
invariant-nonterminals l = l.stopped.items ≡ replicate l._nonterminal []
