use Rattle.std.proofs.Common.{◌∷◌, []}
use Rattle.std.proofs.lemmas.Result.{on_ok_weaker}
use Rattle.wb_text_tokens.specs.declared.token.Token.TheVariants as t
use Rattle.wb_text_tokens.specs.declared.punctuation.Punctuation.TheVariants as p
use Rattle.wb_reader_printer.proofs.ItemLemmas.{in_turn}
use Rattle.wb_reader_printer.proofs.parts.write_block.Goals as goal

pub returns : goal.returns
returns c = on_ok_weaker c.mark-2.result
    (λ puts tokens h. in_turn c.args.line.now c.mark.new.self c.write_equations.new.line c.mark-2.new.self
    (t.Punctuation p.OpenBrace ∷ []) tokens
    (t.Punctuation p.CloseBrace ∷ []) c.in_ok-mark.ensures (c.in_ok-write_equations.ensures tokens h) puts) c.mark-2.ensures
