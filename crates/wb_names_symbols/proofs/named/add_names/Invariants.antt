use Rattle.std.proofs.Common.{◌≡◌, ◌++◌, map, take}
use Rattle.wb_names_symbols.proofs.named.add_names.Given as goal

abbrev pub invariant-rows : goal.invariant-rows
invariant-rows g l = l.names ≡ l.fn.names ++ map g.T.Named.called (take l.row-index l.rows)
