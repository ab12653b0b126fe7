-- Kernels by the productions of their items.
use Rattle.std.specs.Prelude.{◌≡◌, ◌+◌, ◌<◌, ◌≤◌, ℕ, List, Some, Contains, length, slice_get}
use Rattle.wb_base.specs.Grammar.{GrammarView}
use Rattle.wb_grammar_theory.specs.declared.item.Item.{Item}
use Rattle.wb_grammar_theory.specs.Items.{IsKernelItem}
use Rattle.wb_items.specs.Kernels.{KernelsView, prefix_of}

-- each of the first kernels is listed at the productions of its items, and no other is listed
pub record IsIndex (kernels : KernelsView) (n : ℕ) (index : List (List ℕ)) : Type 0 where
  pub len : length index ≡ length kernels.grammar.productions + 1
  pub sound : (p s : ℕ) (row : List ℕ) → slice_get index p ≡ Some row → Contains row s → s < n
  pub complete : (s : ℕ) (item : Item) (row : List ℕ) → s < n → IsKernelItem kernels.grammar (prefix_of kernels s) item
      → slice_get index item.production ≡ Some row → Contains row s

-- there is an item, and each is of a production of the grammar or of `S' -> S`
abbrev pub IsIndexable : GrammarView → List Item → Type 0
IsIndexable g own = (0 < length own) × ((i : Item) → Contains own i → i.production ≤ length g.productions)

-- besides, the kernel of this number is listed at the productions of the first of these items
pub record IsIndexUpTo (kernels : KernelsView) (n : ℕ) (items : List Item) (i : ℕ) (index : List (List ℕ)) : Type 0 where
  pub len : length index ≡ length kernels.grammar.productions + 1
  pub sound : (p s : ℕ) (row : List ℕ) → slice_get index p ≡ Some row → Contains row s → s < n + 1
  pub complete : (s : ℕ) (item : Item) (row : List ℕ) → s < n → IsKernelItem kernels.grammar (prefix_of kernels s) item
      → slice_get index item.production ≡ Some row → Contains row s
  pub listed : (j : ℕ) (item : Item) (row : List ℕ) → j < i → slice_get items j ≡ Some item → slice_get index item.production ≡ Some row
      → Contains row n
