-- What a shelf keeps while it is read.
use Rattle.std.specs.Prelude.{◌≡◌, ℕ, Option, List}
use Rattle.wb_world.specs.Cause.{NeverFalls}
use Rattle.wb_world.specs.Shelf.{Files}

-- what is known of a shelf: its files, and the counts of absences and of faults
pub record Outside : Type 0 where
  pub files : Option Files
  pub absences : List ℕ → ℕ
  pub faults : List ℕ → ℕ

-- the same, made of its parts
abbrev pub outside : Option Files → (List ℕ → ℕ) → (List ℕ → ℕ) → Outside
outside files absences faults = record { files = files; absences = absences; faults = faults }

-- the files stay, and no count falls
pub record Keeps (before now : Outside) : Type 0 where
  pub files : now.files ≡ before.files
  pub absences : NeverFalls before.absences now.absences
  pub faults : NeverFalls before.faults now.faults
