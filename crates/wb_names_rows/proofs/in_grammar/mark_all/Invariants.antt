use Rattle.std.proofs.Common.{take}
use Rattle.wb_names_rows.specs.Inner.Marks.{Marks}
use Rattle.wb_names_rows.proofs.in_grammar.mark_all.Given as goal

abbrev pub invariant-numbers : goal.invariant-numbers
invariant-numbers l = Marks (take l.number-index l.numbers) l.fn.flags.items l.flags.items
