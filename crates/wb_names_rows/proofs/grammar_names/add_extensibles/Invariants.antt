use Rattle.std.proofs.Common.{◌≡◌, ◌++◌, take}
use Rattle.std.specs.List.{flat_map}
use Rattle.wb_syntax.specs.declared.item.Item.{Item}
use Rattle.wb_syntax.specs.declared.pattern.Pattern.{Pattern}
use Rattle.wb_names_rows.specs.GrammarNames.{form_extensibles}
use Rattle.wb_names_rows.proofs.grammar_names.add_extensibles.Given as goal

abbrev pub invariant-items : goal.invariant-items
invariant-items l = l.names ≡ l.fn.names ++ flat_map (λ (item : Item Pattern). form_extensibles item.form) (take l.item-index l.items)
