use Rattle.std.proofs.Common.{◌≡◌, List, drop}
use Rattle.wb_text_tokens.specs.declared.token.Token.{Token}
use Rattle.wb_reader_printer.specs.Inner.Output.{after_lines}
use Rattle.wb_reader_printer.specs.Inner.ItemTokens.{AreLinesOf}
use Rattle.wb_reader_printer.proofs.spec.write_items.Given as goal

abbrev pub invariant-items : goal.invariant-items
invariant-items l = (lines : List (List Token)) → AreLinesOf l.items lines
    → (rest : List (List Token)) × AreLinesOf (drop l.item-index l.items) rest × (after_lines l.line rest ≡ after_lines l.fn.line lines)
