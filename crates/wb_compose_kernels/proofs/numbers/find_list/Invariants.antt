use Rattle.std.proofs.Common.{◌≡◌, ◌<◌, ℕ, List, Some}
use Rattle.std.specs.Prelude.{slice_get}
use Rattle.wb_grammar_theory.specs.declared.item.Item.{Item}
use Rattle.wb_compose_kernels.proofs.numbers.find_list.Given as goal

abbrev pub invariant-lists : goal.invariant-lists
invariant-lists l = (u : ℕ) (list : List Item) → u < l.number → slice_get l.kernels u ≡ Some list → ¬ (list ≡ l.items)
