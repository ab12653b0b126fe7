use Rattle.std.proofs.Common.{take}
use Rattle.wb_names_symbols.specs.Inner.Tables.{AddsNumbers}
use Rattle.wb_names_symbols.proofs.named.add_numbers.Given as goal

abbrev pub invariant-rows : goal.invariant-rows
invariant-rows g l = AddsNumbers g.T.Named.called l.names (take l.row-index l.rows) l.fn.table.items l.table.items
