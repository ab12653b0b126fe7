-- What a read of a shelf may answer.
use Rattle.std.specs.Prelude.{◌≡◌, ℕ, ◌≤◌, Option, Some, None, List, length, take, drop}
use Rattle.wb_world.specs.declared.shelf.Got.{Got}
use Rattle.wb_world.specs.declared.shelf.Got.TheVariants.{Bytes as Gave, Absent, Failed, NoMemory}

-- the contents of a file by its name, if there is one
abbrev pub Files : Type 0
Files = List ℕ → Option (List ℕ)

-- how many bytes a read gave
abbrev pub given : Got → ℕ
given (Gave n) = n
given Absent = 0
given Failed = 0
given (NoMemory e) = 0

-- the first n bytes of the buffer are the file's from that place on, and none come only at its end
pub record FromPlace (contents : List ℕ) (from n : ℕ) (buffer : List ℕ) : Type 0 where
  pub bytes : take n buffer ≡ take n (drop from contents)
  pub ended : n ≡ 0 → length contents ≤ from

-- bytes come only of a file that is there
abbrev pub GivesFrom : Option (List ℕ) → ℕ → ℕ → List ℕ → Type 0
GivesFrom None from n buffer = ⊥
GivesFrom (Some contents) from n buffer = FromPlace contents from n buffer

-- the answer fits the file of the name that was read, or that there is none
abbrev pub FitsFile : Option (List ℕ) → ℕ → Got → List ℕ → Type 0
FitsFile file from (Gave n) buffer = GivesFrom file from n buffer
FitsFile file from Absent buffer = file ≡ None
FitsFile file from Failed buffer = Unit {0}
FitsFile file from (NoMemory e) buffer = Unit {0}

-- the answer fits the files, where they are known
abbrev pub FitsFiles : Option Files → List ℕ → ℕ → Got → List ℕ → Type 0
FitsFiles None name from got buffer = Unit {0}
FitsFiles (Some files) name from got buffer = FitsFile (files name) from got buffer
