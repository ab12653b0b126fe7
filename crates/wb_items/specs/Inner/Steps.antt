-- Steps between kernels as they are kept.
use Rattle.std.specs.Prelude.{◌≡◌, ◌≤◌, ◌+◌, ℕ, List, length, Some, slice_get}
use Rattle.wb_grammar_theory.specs.declared.item.Item.{Item}
use Rattle.wb_items.specs.declared.kernel_index.Step.{Step}
use Rattle.wb_items.specs.KernelOrder.{IsIndex}

-- each step goes on from an earlier prefix, and there is a list of items for each prefix
pub record AreSteps (steps : List Step) (kernels : List (List Item)) : Type 0 where
  pub len : length kernels ≡ length steps + 1
  pub back : (s : ℕ) (step : Step) → slice_get steps s ≡ Some step → step.from ≤ s

-- the steps lead to one prefix for each list of items, and the order has the numbers of the lists
pub record IsKernelIndex (steps : List Step) (kernels : List (List Item)) (order : List ℕ) : Type 0 where
  pub back : AreSteps steps kernels
  pub index : IsIndex order kernels
