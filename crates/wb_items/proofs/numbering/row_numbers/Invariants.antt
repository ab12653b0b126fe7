use Rattle.std.proofs.Common.{take}
use Rattle.wb_items.specs.Inner.Numbering.{AreGiven}
use Rattle.wb_items.proofs.numbering.row_numbers.Given as goal

abbrev pub invariant-items : goal.invariant-items
invariant-items l = AreGiven l.grammar (take l.item-index l.items) l.numbers l.first l.made
