-- New kernels as they are found.
use Rattle.std.specs.Prelude.{◌≡◌, ◌+◌, ◌<◌, ℕ, List, Some, length, map, slice_get}
use Rattle.wb_base.specs.declared.symbol.Symbol.{Symbol}
use Rattle.wb_base.specs.Grammar.{GrammarView}
use Rattle.wb_grammar_theory.specs.declared.item.Item.{Item}
use Rattle.wb_grammar_theory.specs.Items.{IsViablePrefix}
use Rattle.wb_items.specs.KernelOrder.{IsIndex}
use Rattle.wb_items.specs.Kernels.{AreInOrder, KernelsView, ListsKernel, count_of, prefix_of}
use Rattle.wb_items.specs.Table.{Leads, SameItems}
use Rattle.wb_compose_theory.specs.Renamings.{Renaming, renamed_item}
use Rattle.wb_determinism_kernels.specs.declared.index.Step.{Step}
use Rattle.wb_determinism_kernels.specs.NewKernels.{IndexView, prefixes_beside}

-- there is a list of items for each step, and the order has the numbers of the lists
pub record IsOrdered (steps : List Step) (kernels : List (List Item)) (order : List ℕ) : Type 0 where
  pub len : length kernels ≡ length steps
  pub index : IsIndex order kernels

-- the items are no kernel of the host, in its numbers
abbrev pub IsNoHostKernel : KernelsView → Renaming → List Item → Type 0
IsNoHostKernel host up items = (own : List Item) (prefix : List Symbol) → map (renamed_item up) own ≡ items →
    IsViablePrefix host.grammar prefix → ¬ ListsKernel host.grammar prefix own

-- the items are, in the host's numbers, the kernel of this number of the host
pub record IsHostNumber (host : KernelsView) (up : Renaming) (items : List Item) (n : ℕ) : Type 0 where
  pub own : List Item
  pub are : map (renamed_item up) own ≡ items
  pub below : n < count_of host
  pub lists : ListsKernel host.grammar (prefix_of host n) own

module _ (host : KernelsView) (k : GrammarView) (up : Renaming) where
  -- some symbol leads to the number from a lower one
  pub record IsFollowing (found : IndexView) (n : ℕ) : Type 0 where
    pub from : ℕ
    pub symbol : Symbol
    pub before : from < n
    pub leads : Leads k (prefixes_beside up host found.steps) from symbol n

  -- each number has a viable prefix; each new one its kernel, in order, which is no kernel of the host; no two have the same;
  -- and each is led to from a lower number
  pub record AreFoundSoFar (found : IndexView) : Type 0 where
    pub len : length found.kernels ≡ length found.steps
    pub viable : (n : ℕ) (prefix : List Symbol) → slice_get (prefixes_beside up host found.steps) n ≡ Some prefix → IsViablePrefix k prefix
    pub exact : (i : ℕ) (prefix : List Symbol) (kernel : List Item) →
        slice_get (prefixes_beside up host found.steps) (count_of host + i) ≡ Some prefix → slice_get found.kernels i ≡ Some kernel →
        ListsKernel k prefix kernel
    pub sorted : (i : ℕ) (kernel : List Item) → slice_get found.kernels i ≡ Some kernel → AreInOrder kernel
    pub foreign : (i : ℕ) (kernel : List Item) → slice_get found.kernels i ≡ Some kernel → IsNoHostKernel host up kernel
    pub once : (i j : ℕ) (kernel other : List Item) → slice_get found.kernels i ≡ Some kernel → slice_get found.kernels j ≡ Some other →
        SameItems kernel other → i ≡ j
    pub following : (i : ℕ) → i < length found.steps → IsFollowing found (count_of host + i)

  -- prefixes and kernels are where they were
  pub record Grows (old new : IndexView) : Type 0 where
    pub prefixes : (n : ℕ) (prefix : List Symbol) → slice_get (prefixes_beside up host old.steps) n ≡ Some prefix →
        slice_get (prefixes_beside up host new.steps) n ≡ Some prefix
    pub kernels : (i : ℕ) (kernel : List Item) → slice_get old.kernels i ≡ Some kernel → slice_get new.kernels i ≡ Some kernel

  -- the symbol leads from the one number to the other, which may be new
  pub record IsAdded (old new : IndexView) (from : ℕ) (x : Symbol) (next : ℕ) : Type 0 where
    pub so_far : AreFoundSoFar new
    pub grows : Grows old new
    pub leads : Leads k (prefixes_beside up host new.steps) from x next
