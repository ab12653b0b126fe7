-- Shelves in memory.
use Rattle.std.specs.Prelude.{◌≡◌, ◌≢◌, ℕ, Option, Some, None, List, [], ◌∷◌, map, Contains, String, string_bytes, Vec, if◌then◌else◌}
use Rattle.std.specs.Str.{bytes_eq}
use Rattle.std.specs.declared.alloc.Global.{Global}
use Rattle.wb_world.specs.Cause.{next_count}
use Rattle.wb_world.specs.declared.shelf.Got.{Got}
use Rattle.wb_world.specs.declared.shelf.Got.TheVariants.{Bytes as Gave, Absent, Failed, NoMemory}

-- what a shelf in memory holds: its files by name, the reads that fail, and its counts
pub record ShelfView : Type 0 where
  pub files : List (List ℕ × List ℕ)
  pub fails : List ℕ
  pub calls : ℕ
  pub faults : ℕ
  pub absences : ℕ

-- the contents of the first file of this name
abbrev pub file_at : List (List ℕ × List ℕ) → List ℕ → Option (List ℕ)
file_at [] name = None
file_at (file ∷ files) name = if bytes_eq file.0 name then Some file.1 else file_at files name

-- the texts of names, with contents
abbrev pub named : List (String Global × Vec ℕ Global) → List (List ℕ × List ℕ)
named files = map (λ file. (string_bytes file.0, file.1.items)) files

-- the counts after this answer, a listed read being the one that fails
abbrev pub AnswersRead : ShelfView → ShelfView → List ℕ → Got → Type 0
AnswersRead old new name (Gave n) =
    (new ≡ record old { calls = next_count old.calls }) × (¬ Contains old.fails new.calls) × (file_at old.files name ≢ None)
AnswersRead old new name Absent =
    (new ≡ record old { calls = next_count old.calls; absences = next_count old.absences })
    × (¬ Contains old.fails new.calls) × (file_at old.files name ≡ None)
AnswersRead old new name Failed =
    (new ≡ record old { calls = next_count old.calls; faults = next_count old.faults }) × Contains old.fails new.calls
AnswersRead old new name (NoMemory e) = ⊥
