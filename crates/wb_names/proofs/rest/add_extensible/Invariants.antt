use Rattle.std.proofs.Common.{take}
use Rattle.std.specs.List.{flat_map}
use Rattle.wb_syntax.specs.declared.item.Item.{Item}
use Rattle.wb_syntax.specs.declared.pattern.Pattern.{Pattern}
use Rattle.wb_names_rows.specs.GrammarNames.{form_extensibles}
use Rattle.wb_names_rows.specs.Nodes.{IsAt}
use Rattle.wb_names_rows.specs.Plains.{AddsEach}
use Rattle.wb_names.proofs.rest.add_extensible.Given as goal

abbrev pub invariant-items : goal.invariant-items
invariant-items l = AddsEach (IsAt l.scope.nonterminals)
    (flat_map (λ (item : Item Pattern). form_extensibles item.form) (take l.item-index l.items)) l.fn.made.items l.made.items
