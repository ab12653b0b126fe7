-- A text that is read of a file, and one that is too long.
use Rattle.std.specs.Prelude.{◌≡◌, ◌<◌, ℕ, Option, List, length, ◌≤◌}
use Rattle.wb_report.specs.Lines.{report_of}
use Rattle.wb_report.specs.declared.outcome.Outcome.TheVariants as o
use Rattle.wb_world.specs.Shelf.{Files}
use Rattle.wb_program_files.specs.Files.{KnownFile}

-- the file is longer than a text may be, and the line says so
pub record IsTooLongText (known : Option Files) (file bytes : List ℕ) : Type 0 where
  pub long : KnownFile known file (λ contents. 1048576 < length contents)
  pub line : bytes ≡ report_of o.TextTooLong

-- the file is this text, which isn't too long
abbrev pub IsText : Option Files → List ℕ → List ℕ → Type 0
IsText known file text = KnownFile known file (λ contents. contents ≡ text) × (length text ≤ 1048576)
