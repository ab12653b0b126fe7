use Rattle.std.proofs.Common.{◌≡◌, ◌++◌, map, take}
use Rattle.wb_syntax.specs.declared.item.Item.{Item}
use Rattle.wb_syntax.specs.declared.pattern.Pattern.{Pattern}
use Rattle.wb_names_symbols.specs.Inner.Names.{form_forwarder}
use Rattle.wb_names_symbols.proofs.forwards.add_forwarders.Given as goal

abbrev pub invariant-items : goal.invariant-items
invariant-items l = l.names ≡ l.fn.names ++ map (λ (item : Item Pattern). form_forwarder item.form) (take l.item-index l.items)
