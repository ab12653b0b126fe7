use Rattle.wb_text_tokens.proofs.WordLemmas.{none_reserved, other_reserved}
use Rattle.wb_text_tokens.proofs.word.word_of.Goals as goal

pub returns-in_err-word : goal.returns-in_err-word
returns-in_err-word c = rw c.from_residual.ensures (none_reserved c.args.dialect c.args.text.now c.in_err-word.ensures.none)
