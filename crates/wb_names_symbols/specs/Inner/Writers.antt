-- What an item adds to the places of those that write on each production.
use Rattle.std.specs.Prelude.{◌≡◌, ◌⊎◌, ◌++◌, ◌∷◌, [], ℕ, List, Option, Some, None, Contains, get_or, set, slice_get}
use Rattle.wb_names_numbers_theory.specs.Files.{Block}
use Rattle.wb_names_symbols.specs.Writers.{lists_of}
use Rattle.wb_names_symbols.specs.declared.writers.Writers.{Writers}

-- the place is added as the first one of a new name, or after the others of a name that is there
abbrev pub AddsPlace : List ℕ → ℕ → Writers → Writers → Type 0
AddsPlace name place old new =
    ((¬ Contains old.names name) × (new.names ≡ old.names ++ name ∷ []) × (lists_of new ≡ lists_of old ++ (place ∷ []) ∷ []))
    ⊎ ((k : ℕ) × (slice_get old.names k ≡ Some name) × (new.names ≡ old.names)
    × (lists_of new ≡ set (lists_of old) k (get_or (lists_of old) k [] ++ place ∷ [])))

-- the place of an item is added, where the item writes on a production
abbrev pub AddsBlock : Option Block → ℕ → Writers → Writers → Type 0
AddsBlock None place old new = new ≡ old
AddsBlock (Some b) place old new = AddsPlace b.name place old new
