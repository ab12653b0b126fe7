-- What is known of a file by its name. Where a shelf doesn't tell its files, nothing is said.
use Rattle.std.specs.Prelude.{◌≡◌, ℕ, Option, Some, None, List}
use Rattle.wb_world.specs.Shelf.{Files}

-- a file is there, and its contents meet this
abbrev pub FileIs : Option (List ℕ) → (List ℕ → Type 0) → Type 0
FileIs None P = ⊥
FileIs (Some contents) P = P contents

-- a file of this name is there, and its contents meet this
abbrev pub KnownFile : Option Files → List ℕ → (List ℕ → Type 0) → Type 0
KnownFile None name P = Unit {0}
KnownFile (Some files) name P = FileIs (files name) P

-- no file has this name
abbrev pub KnownAbsent : Option Files → List ℕ → Type 0
KnownAbsent None name = Unit {0}
KnownAbsent (Some files) name = files name ≡ None
