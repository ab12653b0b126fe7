use Rattle.std.proofs.Common.{[]}
use Rattle.wb_lexical.specs.Inner.Candidates.{Lists}
use Rattle.wb_lexical.proofs.CandidateLemmas.{RowsBelow}
use Rattle.wb_lexical.proofs.candidates.listed_pairs.Given as goal

abbrev pub invariant-terminals : goal.invariant-terminals
invariant-terminals l = Lists (RowsBelow l.compared l.left) [] l.pairs.items
