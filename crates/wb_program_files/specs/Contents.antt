-- What is read of a file, up to a limit.
use Rattle.std.specs.Prelude.{◌≡◌, ◌<◌, ◌≤◌, ℕ, Option, Some, None, List, length}
use Rattle.wb_report.specs.Lines.{report_of}
use Rattle.wb_report.specs.declared.outcome.Outcome.TheVariants as o
use Rattle.wb_world.specs.Shelf.{Files}
use Rattle.wb_program_files.specs.Checks.{Report, Ends}
use Rattle.wb_program_files.specs.Files.{KnownFile}
use Rattle.wb_program_files.specs.declared.files.Contents.{Contents}
use Rattle.wb_program_files.specs.declared.files.Contents.TheVariants.{Whole, TooLong}
use Rattle.wb_program_files.specs.declared.status.Status.TheVariants.{TextTooLong}

-- a file of this name is there with these contents, where files are known
abbrev pub KnownIs : Option Files → List ℕ → List ℕ → Type 0
KnownIs None name contents = Unit {0}
KnownIs (Some files) name contents = files name ≡ Some contents

-- this is what the file has, up to a limit
abbrev pub ContentsAre : ℕ → Option Files → List ℕ → Contents → Type 0
ContentsAre limit known name (Whole bytes) = KnownIs known name bytes.items × (length bytes.items ≤ limit)
ContentsAre limit known name TooLong = KnownFile known name (λ contents. limit < length contents)

-- what was read meets this: the whole of it does, or all that is longer than a file may be
abbrev pub ReadIs : Contents → (List ℕ → Type 0) → Type 0
ReadIs (Whole bytes) P = P bytes.items
ReadIs TooLong P = (contents : List ℕ) → 1048576 < length contents → P contents

-- what was read of a text: its report, or that it is too long
abbrev pub ReadText : (List ℕ → Report) → Contents → Report
ReadText rest (Whole bytes) = rest bytes.items
ReadText rest TooLong = Ends TextTooLong (λ bytes. bytes ≡ report_of o.TextTooLong)
