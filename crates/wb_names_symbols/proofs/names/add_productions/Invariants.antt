use Rattle.std.proofs.Common.{◌≡◌, ◌++◌, take}
use Rattle.std.specs.List.{flat_map}
use Rattle.wb_syntax_resolved.specs.declared.production.Production.{Production}
use Rattle.wb_names_symbols.specs.Inner.Names.{row_names}
use Rattle.wb_names_symbols.proofs.names.add_productions.Given as goal

abbrev pub invariant-rows : goal.invariant-rows
invariant-rows l = l.names ≡ l.fn.names ++ flat_map (λ (p : Production). row_names l.concrete p) (take l.row-index l.rows)
