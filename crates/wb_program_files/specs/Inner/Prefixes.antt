-- The prefix of a file that is read so far.
use Rattle.std.specs.Prelude.{◌≡◌, ℕ, Option, Some, None, List, [], length, take}
use Rattle.wb_world.specs.Shelf.{Files}

-- these bytes are a prefix of the file, or none where there is no file
abbrev pub IsPrefix : Option (List ℕ) → List ℕ → Type 0
IsPrefix None bytes = bytes ≡ []
IsPrefix (Some contents) bytes = bytes ≡ take (length bytes) contents

-- these bytes are a prefix of the file of this name, where files are known
abbrev pub KnownPrefix : Option Files → List ℕ → List ℕ → Type 0
KnownPrefix None name bytes = Unit {0}
KnownPrefix (Some files) name bytes = IsPrefix (files name) bytes
