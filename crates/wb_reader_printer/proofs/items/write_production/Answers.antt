use Rattle.std.proofs.Common.{◌≡◌, ◌∷◌, [], List, sym, subst, rules}
use Rattle.std.proofs.lemmas.Result.{on_ok_weaker}
use Rattle.wb_text_tokens.specs.declared.token.Token.TheVariants as t
use Rattle.wb_text_tokens.specs.declared.punctuation.Punctuation.TheVariants as p
use Rattle.wb_reader_printer.specs.Inner.Output.{after}
use Rattle.wb_syntax.specs.declared.expression.Equation.{Equation}
use Rattle.wb_reader_printer.specs.Inner.PartTokens.{children_tokens, block_tokens, AreEquationTokens}
use Rattle.wb_reader_printer.proofs.ItemLemmas.{in_turn}
use Rattle.wb_reader_printer.proofs.items.write_production.Goals as goal

pub returns : goal.returns
returns c =
    let front : c.mark-2.new.self ≡ after c.args.line.now
    (t.Word c.args.word ∷ t.Name c.args.production.now.name ∷ t.Punctuation p.Colon ∷ t.Name c.args.production.now.left
    ∷ t.Punctuation p.Becomes ∷ []) = search rules in
    let middle : c.write_children.new.line ≡ after c.mark-2.new.self (children_tokens c.args.production.now.children) = search rules in
    on_ok_weaker c.write_block.result
    (λ puts tokens h. in_turn c.args.line.now c.mark-2.new.self c.write_children.new.line c.write_block.new.line
    (t.Word c.args.word ∷ t.Name c.args.production.now.name ∷ t.Punctuation p.Colon ∷ t.Name c.args.production.now.left
    ∷ t.Punctuation p.Becomes ∷ [])
    (children_tokens c.args.production.now.children) (block_tokens tokens) front middle
    (puts tokens (subst (λ (l : List Equation). AreEquationTokens l tokens) (sym c.as_slice-4.ensures) h))) c.write_block.ensures
