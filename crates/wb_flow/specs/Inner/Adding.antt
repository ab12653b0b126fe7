-- Lists to which values are added, in any order.
use Rattle.std.specs.Prelude.{◌≡◌, ◌<◌, ℕ, List, Some, Contains, slice_get}

-- it holds for one of the first values of a list
abbrev pub SomeBefore : {A X : Type 0} → List A → ℕ → (A → X → Type 0) → X → Type 0
SomeBefore {A} xs count P x = (k : ℕ) × (y : A) × (k < count) × (slice_get xs k ≡ Some y) × P y x

-- it holds for one of the values of a list
abbrev pub SomeOf : {A X : Type 0} → List A → (A → X → Type 0) → X → Type 0
SomeOf {A} xs P x = (y : A) × Contains xs y × P y x

-- it holds for one of the first numbers
abbrev pub SomeBelow : {X : Type 0} → ℕ → (ℕ → X → Type 0) → X → Type 0
SomeBelow count P x = (k : ℕ) × (k < count) × P k x
