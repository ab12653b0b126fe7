-- Sets of items in order, and the numbers of kernels by this order.
use Rattle.std.specs.Prelude.{◌≡◌, ◌↔◌, ℕ, ◌+◌, ◌<◌, List, Option, Some, None, Contains, slice_get}
use Rattle.wb_grammar_theory.specs.declared.item.Item.{Item}
use Rattle.wb_items.specs.Kernels.{Precedes}

-- the item follows the last of the kernel's items before the place
abbrev pub IsAfter : List Item → ℕ → Item → Type 0
IsAfter kernel place z = (m : ℕ) (a : Item) → place ≡ m + 1 → slice_get kernel m ≡ Some a → Precedes a z

-- of the items at the first n places that follow the kernel's items before the place, this is the least, or there is none
abbrev pub IsLeastAfter : List Item → ℕ → List Item → ℕ → Option Item → Type 0
IsLeastAfter kernel place items n None = (p : ℕ) (z : Item) → p < n → slice_get items p ≡ Some z → ¬ IsAfter kernel place z
IsLeastAfter kernel place items n (Some least) = Contains items least × IsAfter kernel place least × ((p : ℕ) (z : Item) → p < n →
    slice_get items p ≡ Some z → IsAfter kernel place z → ¬ Precedes z least)

-- the kernel and the set have the same items among those that don't follow the kernel's items before the place
abbrev pub AgreeUpTo : List Item → List Item → ℕ → Type 0
AgreeUpTo kernel items place = (z : Item) → ¬ IsAfter kernel place z → Contains kernel z ↔ Contains items z

-- the lists are the same at the first n places
abbrev pub AgreeBelow : List Item → List Item → ℕ → Type 0
AgreeBelow one other n = (k : ℕ) → k < n → slice_get one k ≡ slice_get other k
