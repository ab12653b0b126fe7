use Rattle.std.proofs.Common.{length, sym, ◌∙◌, subst}
use Rattle.wb_text_tokens.specs.Inner.Longest.{IsLongest}
use Rattle.wb_text_tokens.specs.declared.token.Token.TheVariants as t
use Rattle.wb_text_tokens.proofs.MarkLemmas.{mark_longest, mark_none}
use Rattle.wb_text_tokens.proofs.punctuation.longest_mark.Goals as goal

pub returns-in_err-mark : goal.returns-in_err-mark
returns-in_err-mark c = λ dialect. rw c.from_residual.ensures (mark_none dialect c.args.text.now c.requires.begins (sym c.mark.ensures ∙ c.in_err-mark.was))

pub returns : goal.returns
returns c = λ dialect. subst (λ l. IsLongest dialect c.args.text.now (t.Punctuation c.in_ok-mark.mark) (length l)) (sym c.text.ensures)
    (mark_longest dialect c.args.text.now c.in_ok-mark.mark c.requires.begins (sym c.mark.ensures ∙ c.in_ok-mark.was))
