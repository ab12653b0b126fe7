-- The values of options, by places of their names.
use Rattle.std.specs.Prelude.{◌≡◌, ℕ, List, Contains, Option, Some, None, slice_get}
use Rattle.std.specs.Borrow.{Bor}
use Rattle.wb_program_words.specs.Options.{Given, HasOption, AreOptions, names_of}

-- a slot is the value of the option of this name, where there is one
abbrev pub IsSlot : List Given → List ℕ → Option (Bor (List ℕ)) → Type 0
IsSlot options name (Some value) = HasOption options name value.now
IsSlot options name None = ¬ Contains (names_of options) name

-- the slots are the values of the options, which have some of these names, none twice
pub record AreSlots (names : List (List ℕ)) (options : List Given) (slots : List (Option (Bor (List ℕ)))) : Type 0 where
  pub known : AreOptions names options
  pub each : (k : ℕ) (name : List ℕ) (slot : Option (Bor (List ℕ))) → slice_get names k ≡ Some name → slice_get slots k ≡ Some slot
      → IsSlot options name slot
