-- Which items write on each production, by its name.
use Rattle.std.specs.Prelude.{◌≡◌, ◌<◌, [], ℕ, List, Some, All, Contains, length, map, slice_get}
use Rattle.wb_base.specs.Different.{Differ}
use Rattle.wb_names_theory.specs.Declarations.{Items}
use Rattle.wb_names_numbers_theory.specs.Files.{equations_on}
use Rattle.wb_names_rows.specs.Blocks.{equations_at}
use Rattle.wb_names_symbols.specs.declared.writers.Writers.{Writers}

-- the places of items, by the number of a name
abbrev pub lists_of : Writers → List (List ℕ)
lists_of w = map (λ row. row.items) w.places.items

-- the places are ones of all items, whose equations are those that the first of them write on the production of this name
pub record IsWrittenAt (all first : Items) (name places : List ℕ) : Type 0 where
  pub within : All (λ (place : ℕ). place < length all) places
  pub equations : equations_at all places ≡ equations_on name first

-- each name on whose production the first items write has the places of those that do
pub record AreWriters (all first : Items) (w : Writers) : Type 0 where
  pub len : length w.places.items ≡ length w.names
  pub differ : Differ w.names
  pub listed : (k : ℕ) (name places : List ℕ) → slice_get w.names k ≡ Some name → slice_get (lists_of w) k ≡ Some places
      → IsWrittenAt all first name places
  pub others : (name : List ℕ) → ¬ Contains w.names name → equations_on name first ≡ []
