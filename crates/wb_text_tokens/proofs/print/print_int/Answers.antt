use Rattle.wb_text_tokens.proofs.PrintLemmas.{integer_printed}
use Rattle.wb_text_tokens.proofs.print.print_int.Goals as goal

pub returns-clause-token : goal.returns-clause-token
returns-clause-token c = λ dialect. (integer_printed c.args.value c.ranges.value, c.ranges.value)
