use Rattle.std.proofs.Common.{◌≡◌, ◌++◌, take}
use Rattle.std.specs.List.{flat_map}
use Rattle.wb_syntax.specs.declared.item.Item.{Item}
use Rattle.wb_syntax.specs.declared.pattern.Pattern.{Pattern}
use Rattle.wb_names_symbols.specs.Inner.Names.{form_closeds}
use Rattle.wb_names_symbols.proofs.said.add_closed_names.Given as goal

abbrev pub invariant-items : goal.invariant-items
invariant-items l = l.names ≡ l.fn.names ++ flat_map (λ (item : Item Pattern). form_closeds item.form) (take l.item-index l.items)
