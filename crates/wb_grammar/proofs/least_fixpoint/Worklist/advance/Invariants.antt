use Rattle.wb_grammar.specs.Inner.Worklists.{state_of}
use Rattle.wb_grammar.proofs.WorklistLemmas.{IsAdvancing}
use Rattle.wb_grammar.proofs.least_fixpoint.Worklist.advance.Given as goal

abbrev pub invariant-stopped : goal.invariant-stopped
invariant-stopped l = IsAdvancing l.grammar l.terminals (state_of l.fn.self) l.production-items l.production-index (state_of l.self)
