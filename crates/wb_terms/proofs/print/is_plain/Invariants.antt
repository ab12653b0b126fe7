use Rattle.wb_terms.proofs.PlainLemmas.{PlainBelow}
use Rattle.wb_terms.proofs.print.is_plain.Given as goal

abbrev pub invariant-bytes : goal.invariant-bytes
invariant-bytes l = PlainBelow l.text l.b-index
