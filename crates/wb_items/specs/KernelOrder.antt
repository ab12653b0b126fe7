-- Kernels in the order of sets of items, by numbers.
use Rattle.std.specs.Prelude.{◌≡◌, ◌↔◌, ℕ, ◌<◌, ◌≤◌, List, Some, length, Contains, slice_get}
use Rattle.wb_grammar_theory.specs.declared.item.Item.{Item}
use Rattle.wb_items.specs.Kernels.{AreInOrder, Precedes}

-- the one set has the least item in which it differs from the other
pub record ComesFirst (items other : List Item) : Type 0 where
  pub item : Item
  pub has : Contains items item
  pub lacks : ¬ Contains other item
  pub below : (z : Item) → Precedes z item → Contains items z ↔ Contains other z

-- the numbers of all kernels, which are in order each, by the order of the kernels as sets
pub record IsIndex (order : List ℕ) (kernels : List (List Item)) : Type 0 where
  pub sorted : (s : ℕ) (kernel : List Item) → slice_get kernels s ≡ Some kernel → AreInOrder kernel
  pub below : (i s : ℕ) → slice_get order i ≡ Some s → s < length kernels
  pub all : (s : ℕ) → s < length kernels → Contains order s
  pub rising : (i j s t : ℕ) (one other : List Item) → i < j → slice_get order i ≡ Some s → slice_get order j ≡ Some t →
      slice_get kernels s ≡ Some one → slice_get kernels t ≡ Some other → ComesFirst one other

-- the kernels before the low place come before the set, and those from the high place on after it
pub record LiesWithin (kernels : List (List Item)) (order : List ℕ) (items : List Item) (low high : ℕ) : Type 0 where
  pub rises : low ≤ high
  pub ends : high ≤ length order
  pub before : (i s : ℕ) (kernel : List Item) → i < low → slice_get order i ≡ Some s → slice_get kernels s ≡ Some kernel →
      ComesFirst kernel items
  pub beyond : (i s : ℕ) (kernel : List Item) → high ≤ i → slice_get order i ≡ Some s → slice_get kernels s ≡ Some kernel →
      ComesFirst items kernel
