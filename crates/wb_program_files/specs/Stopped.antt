-- Why a run stops at a file, and what a shelf keeps meanwhile.
use Rattle.std.specs.Prelude.{◌≡◌, ℕ, Option, List}
use Rattle.wb_world.specs.Cause.{NeverFalls}
use Rattle.wb_world.specs.Shelf.{Files}
use Rattle.wb_program_files.specs.Stops.{IsMissing, IsFaulty}
use Rattle.wb_program_files.specs.declared.files.ReadFailure.{ReadFailure}
use Rattle.wb_program_files.specs.declared.files.ReadFailure.TheVariants.{Absent, ReadFault, NoMemory}

-- what is known of a shelf: its files, and the counts of absences and of faults
pub record Outside : Type 0 where
  pub files : Option Files
  pub absences : List ℕ → ℕ
  pub faults : List ℕ → ℕ

-- the same, made of its parts
abbrev pub outside : Option Files → (List ℕ → ℕ) → (List ℕ → ℕ) → Outside
outside files absences faults = record { files = files; absences = absences; faults = faults }

-- a reader of files of which one meets this stopped for this reason
abbrev pub Stopped : Outside → Outside → ((List ℕ → Type 0) → Type 0) → ReadFailure → Type 0
Stopped before now Comes Absent = Comes (IsMissing before.files before.absences now.absences)
Stopped before now Comes ReadFault = Comes (IsFaulty before.faults now.faults)
Stopped before now Comes NoMemory = Unit {0}

-- the files stay, and no count falls
pub record GoesOn (before now : Outside) : Type 0 where
  pub files : now.files ≡ before.files
  pub absences : NeverFalls before.absences now.absences
  pub faults : NeverFalls before.faults now.faults
