-- What is added to a page, and how a run ends that writes it.
use Rattle.std.specs.Prelude.{◌≡◌, ◌≢◌, ◌⊎◌, Option, List, ℕ, Bool, true, false}
use Rattle.std.specs.Io.KnownBytes.{append_known}
use Rattle.wb_explain_lines.specs.Page.{PageView}
use Rattle.wb_explain_lines.specs.Written.{WrotePart}
use Rattle.wb_explain.specs.Explained.{BeginsWith, ShowsAfter, ShowsInstead}
use Rattle.wb_program.specs.status.Status.{Status}
use Rattle.wb_program.specs.status.Status.TheVariants.{Done, WriteFault, NoMemory}

-- no write to the page has failed, and something is added, or where the run comes to its end, this is shown
pub record Adds (Shows : List ℕ → List ℕ → Type 0) (status : Status) (before now : PageView) : Type 0 where
  pub unfailed : before.failures ≡ 0
  pub begins : status ≢ Done → BeginsWith before.bytes now.bytes
  pub ends : status ≡ Done → Shows before.bytes now.bytes

-- what is shown of a run that comes to its end: a picture, or the lines and what there is after them
abbrev pub shown_as : Bool → List (List ℕ) → List ℕ → List ℕ → Type 0
shown_as true words = ShowsInstead
shown_as false words = ShowsAfter words

-- how a run ends that has these bytes to write: memory ran out, or some of them were written, or all and with the status
abbrev pub Ends : Status → List ℕ → Option (List ℕ) → Option (List ℕ) → Status → Type 0
Ends status bytes before now end =
    ((end ≡ NoMemory) × (now ≡ before))
    ⊎ ((status ≢ NoMemory)
    × (((end ≡ WriteFault) × WrotePart before now bytes) ⊎ ((end ≡ status) × (now ≡ append_known before bytes))))
