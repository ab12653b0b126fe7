use Rattle.std.proofs.Common.{arith}
use Rattle.wb_terms.proofs.LongLemmas.{text_long}
use Rattle.wb_terms.proofs.print.print_short.Goals as goal

pub returns-then-text-gt-LIMIT-clause-refused : goal.returns-then-text-gt-LIMIT-clause-refused
returns-then-text-gt-LIMIT-clause-refused c = omega (arith, text_long c.args.text.now)
