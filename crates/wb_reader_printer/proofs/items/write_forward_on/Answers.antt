use Rattle.std.proofs.Common.{◌∙◌, ◌∷◌, [], ap}
use Rattle.std.proofs.lemmas.Result.{on_ok_weaker}
use Rattle.wb_text_tokens.specs.declared.token.Token.TheVariants as t
use Rattle.wb_text_tokens.specs.declared.word.Word.TheVariants as w
use Rattle.wb_text_tokens.specs.declared.punctuation.Punctuation.TheVariants as p
use Rattle.wb_reader_printer.specs.Inner.Output.{Output, put}
use Rattle.wb_reader_printer.specs.Inner.PartTokens.{needs_tokens}
use Rattle.wb_reader_printer.proofs.ItemLemmas.{in_turn}
use Rattle.wb_reader_printer.proofs.items.write_forward_on.Goals as goal

pub returns : goal.returns
returns c = on_ok_weaker c.mark.result
    (λ puts. in_turn c.args.line.now c.name.new.self c.write_needs.new.line c.mark.new.self
    (t.Word w.Forward ∷ t.Word w.On ∷ t.Name c.args.nonterminal.now ∷ [])
    (needs_tokens c.args.needs.now) (t.Punctuation p.Semicolon ∷ [])
    (c.in_ok-name.ensures ∙ ap (λ (o : Output). put o (t.Name c.args.nonterminal.now))
    (c.in_ok-word-2.ensures ∙ ap (λ (o : Output). put o (t.Word w.On)) c.in_ok-word.ensures))
    c.in_ok-write_needs.ensures puts) c.mark.ensures
