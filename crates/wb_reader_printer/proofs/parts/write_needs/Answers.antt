use Rattle.std.proofs.Common.{◌∙◌, ◌∷◌, [], ap}
use Rattle.std.proofs.lemmas.Result.{on_ok_weaker}
use Rattle.wb_text_tokens.specs.declared.token.Token.TheVariants as t
use Rattle.wb_text_tokens.specs.declared.word.Word.TheVariants as w
use Rattle.wb_text_tokens.specs.declared.punctuation.Punctuation.TheVariants as p
use Rattle.wb_reader_printer.specs.Inner.Output.{Output, put}
use Rattle.wb_reader_printer.specs.Inner.PartTokens.{names_tokens}
use Rattle.wb_reader_printer.proofs.ItemLemmas.{in_turn}
use Rattle.wb_reader_printer.proofs.parts.write_needs.Goals as goal

pub returns : goal.returns
returns c = on_ok_weaker c.mark-2.result
    (λ puts. in_turn c.args.line.now c.mark.new.self c.write_names.new.line c.mark-2.new.self
    (t.Word w.Needs ∷ t.Punctuation p.OpenBrace ∷ []) (names_tokens c.args.names.now)
    (t.Punctuation p.CloseBrace ∷ [])
    (c.in_ok-mark.ensures ∙ ap
    (λ (o : Output). put o (t.Punctuation p.OpenBrace)) c.in_ok-word.ensures) c.in_ok-write_names.ensures puts)
    c.mark-2.ensures
