-- Items in order, each once.
use Rattle.std.specs.Prelude.{◌≡◌, ◌⊎◌, ◌+◌, ℕ, ◌<◌, List, Some, Contains, slice_get}
use Rattle.wb_grammar_theory.specs.declared.item.Item.{Item}
use Rattle.wb_items.specs.Kernels.{Precedes, AreInOrder}

-- no item precedes the one before it
abbrev pub AreRising : List Item → Type 0
AreRising items = (k : ℕ) (a b : Item) → slice_get items k ≡ Some a → slice_get items (k + 1) ≡ Some b → ¬ Precedes b a

-- the items at the first places, each once and in order
pub record StrictUpTo (items list : List Item) (n : ℕ) : Type 0 where
  pub sound : (z : Item) → Contains list z → (j : ℕ) × (j < n) × (slice_get items j ≡ Some z)
  pub complete : (j : ℕ) (z : Item) → j < n → slice_get items j ≡ Some z → Contains list z
  pub sorted : AreInOrder list
  pub last : (m : ℕ) (a z : Item) → n ≡ m + 1 → slice_get items m ≡ Some a → Contains list z → Precedes z a ⊎ (z ≡ a)
