use Rattle.std.proofs.Common.{rules, FitsSigned, w64, ◌∙◌, pos, ap}
use Rattle.std.proofs.lemmas.Int.{to_z-of_z}
use Rattle.std.proofs.lemmas.Result.{on_ok_weaker}
use Rattle.wb_text_tokens.specs.declared.token.Token.TheVariants as t
use Rattle.wb_text_tokens.specs.declared.punctuation.Punctuation.TheVariants as p
use Rattle.wb_reader_printer.specs.Inner.Output.{Output, put, ended}
use Rattle.wb_reader_printer.proofs.spec.write_format.Goals as goal

pub returns : goal.returns
returns c =
    let fits : FitsSigned w64 c.from.result = search rules in
    let number = to_z-of_z w64 c.from.result fits ∙ c.from.ensures in
    on_ok_weaker c.end.result
    (λ ends. ends ∙ ap ended (c.in_ok-mark.ensures ∙ ap (λ (o : Output). put o (t.Punctuation p.Semicolon))
    (c.in_ok-int.ensures ∙ (ap (λ z. put c.word.new.self (t.Int z)) number
    ∙ ap (λ (o : Output). put o (t.Int (pos c.args.format))) c.in_ok-word.ensures)))) c.end.ensures
