use Rattle.std.proofs.Common.{◌≡◌, ◌<◌, ◌+◌, ℕ, Some}
use Rattle.std.specs.Prelude.{slice_get}
use Rattle.wb_grammar_theory.specs.declared.item.Item.{Item}
use Rattle.wb_items.specs.Kernels.{Precedes}
use Rattle.wb_items.proofs.compare.are_in_order.Given as goal

abbrev pub invariant-places : goal.invariant-places
invariant-places l = (k : ℕ) (a b : Item) → k + 1 < l.place → slice_get l.items k ≡ Some a → slice_get l.items (k + 1) ≡ Some b →
    Precedes a b
