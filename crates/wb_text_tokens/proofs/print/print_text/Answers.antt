use Rattle.wb_text_tokens.proofs.PrintLemmas.{text_printed}
use Rattle.wb_text_tokens.proofs.print.print_text.Goals as goal

pub returns-then-is_err-clause-token : goal.returns-then-is_err-clause-token
returns-then-is_err-clause-token c = λ dialect. (text_printed c.args.text.now (λ k lt. (c.type_inv.text k).fits), tt)

pub returns-else-is_err-clause-token : goal.returns-else-is_err-clause-token
returns-else-is_err-clause-token c = λ dialect. (text_printed c.args.text.now (λ k lt. (c.type_inv.text k).fits), tt)
