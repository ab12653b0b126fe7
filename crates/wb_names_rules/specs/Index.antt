-- What an index keeps of its declarations.
use Rattle.std.specs.Prelude.{◌≡◌, ◌↔◌, ℕ, List, Some, slice_get}
use Rattle.wb_names_theory.specs.declared.declaration.Declaration.{Declaration}
use Rattle.wb_names_theory.specs.Duplicate.{AreSame, Counts, FailsDuplicate}

-- declarations of the same thing that count are one
abbrev pub CountOnce : List Declaration → Type 0
CountOnce declared = (i j : ℕ) (one other : Declaration) → slice_get declared i ≡ Some one → slice_get declared j ≡ Some other
    → Counts declared one → AreSame one other → i ≡ j

-- declarations of the same thing that count are one exactly where no name shows that something is declared twice
abbrev pub IsEachShown : List Declaration → Type 0
IsEachShown declared = CountOnce declared ↔ ((name : List ℕ) → ¬ FailsDuplicate declared name)
