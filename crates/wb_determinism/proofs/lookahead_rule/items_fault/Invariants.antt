use Rattle.std.proofs.Common.{◌≡◌, ◌<◌, ℕ, Some}
use Rattle.std.specs.Prelude.{slice_get}
use Rattle.wb_grammar_theory.specs.declared.item.Item.{Item}
use Rattle.wb_determinism.specs.Inner.Contexts.{KeepsItem}
use Rattle.wb_determinism.proofs.lookahead_rule.items_fault.Given as goal

abbrev pub invariant-items : goal.invariant-items
invariant-items l = (n : ℕ) (item : Item) → n < l.item-index → slice_get l.item-items n ≡ Some item → KeepsItem l.context l.state item
