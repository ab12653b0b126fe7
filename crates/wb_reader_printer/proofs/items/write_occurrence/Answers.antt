use Rattle.std.proofs.Common.{◌≡◌, ◌∷◌, [], rules}
use Rattle.std.proofs.lemmas.Result.{on_ok_weaker}
use Rattle.wb_text_tokens.specs.declared.token.Token.TheVariants as t
use Rattle.wb_text_tokens.specs.declared.word.Word.TheVariants as w
use Rattle.wb_text_tokens.specs.declared.punctuation.Punctuation.TheVariants as p
use Rattle.wb_reader_printer.specs.Inner.Output.{after}
use Rattle.wb_reader_printer.specs.Inner.PartTokens.{optional_needs_tokens}
use Rattle.wb_reader_printer.proofs.ItemLemmas.{in_turn}
use Rattle.wb_reader_printer.proofs.items.write_occurrence.Goals as goal

pub returns : goal.returns
returns c =
    let front : c.name-2.new.self ≡ after c.args.line.now
    (t.Word w.Occurs ∷ t.Name c.args.attribute.now ∷ t.Word w.On ∷ t.Name c.args.nonterminal.now ∷ []) = search rules in
    on_ok_weaker c.mark.result
    (λ puts. in_turn c.args.line.now c.name-2.new.self c.write_optional_needs.new.line c.mark.new.self
    (t.Word w.Occurs ∷ t.Name c.args.attribute.now ∷ t.Word w.On ∷ t.Name c.args.nonterminal.now ∷ [])
    (optional_needs_tokens c.args.needs.now)
    (t.Punctuation p.Semicolon ∷ []) front c.in_ok-write_optional_needs.ensures puts) c.mark.ensures
