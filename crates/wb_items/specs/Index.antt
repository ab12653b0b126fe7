-- Prefixes as steps, each from an earlier one by a symbol.
use Rattle.std.specs.Prelude.{List, [], ◌∷◌, ◌++◌, slice_index_or}
use Rattle.wb_base.specs.declared.symbol.Symbol.{Symbol}
use Rattle.wb_grammar_theory.specs.declared.item.Item.{Item}
use Rattle.wb_items.specs.declared.kernel_index.Step.{Step}

-- prefixes by numbers, and a list of items for each
pub record IndexView : Type 0 where
  pub prefixes : List (List Symbol)
  pub kernels : List (List Item)

-- the prefixes that the steps lead to, after those that are known: each goes on from a known one by a symbol
abbrev pub prefixes_after : List (List Symbol) → List Step → List (List Symbol)
prefixes_after known [] = known
prefixes_after known (step ∷ steps) = prefixes_after (known ++ (slice_index_or known step.from [] ++ step.symbol ∷ []) ∷ []) steps

-- the prefixes that the steps lead to from the empty one
abbrev pub prefixes_of : List Step → List (List Symbol)
prefixes_of steps = prefixes_after ([] ∷ []) steps
