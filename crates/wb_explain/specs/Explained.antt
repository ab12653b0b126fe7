-- What a run that explains writes: a report, and then an explanation; or what is shown where the run comes to its end.
use Rattle.std.specs.Prelude.{◌≡◌, ◌≢◌, ◌⊎◌, ◌++◌, ℕ, Option, List, []}
use Rattle.std.specs.Io.KnownBytes.{append_known}
use Rattle.wb_world.specs.Cause.{NeverFalls}
use Rattle.wb_explain_shown.specs.Asking.{AsksTree}
use Rattle.wb_explain_shown.specs.Pictures.{AddsPicture}
use Rattle.wb_program.specs.Written.{WrotePrefix}
use Rattle.wb_program.specs.status.Status.{Status}
use Rattle.wb_program.specs.status.Status.TheVariants.{Done, Absent, ReadFault, WriteFault, NoMemory}

-- this holds of counts that were there in this run, and have not fallen since
abbrev pub Since : ((List ℕ → ℕ) → Type 0) → (List ℕ → ℕ) → Type 0
Since P now = (between : List ℕ → ℕ) × P between × NeverFalls between now

-- these are the first of the bytes
abbrev pub BeginsWith : List ℕ → List ℕ → Type 0
BeginsWith lines bytes = (more : List ℕ) × (bytes ≡ lines ++ more)

-- after the lines of words that ask for no tree there is nothing more
abbrev pub ShowsAfter : List (List ℕ) → List ℕ → List ℕ → Type 0
ShowsAfter words lines bytes = (more : List ℕ) × (bytes ≡ lines ++ more) × ((more ≡ []) ⊎ AsksTree words)

-- in the place of the lines there is a picture
abbrev pub ShowsInstead : List ℕ → List ℕ → Type 0
ShowsInstead lines bytes = AddsPicture [] bytes

-- which bytes are the report of a status, and which are shown of a run that comes to its end, with these lines
module _ (IsReport : Status → List ℕ → Type 0) (Shows : List ℕ → List ℕ → Type 0) where
  -- these are the lines of a run with this status: its report, or nothing where it ends at a file
  abbrev pub AreLines : Status → List ℕ → Type 0
  AreLines status lines = IsReport status lines ⊎ (((status ≡ Absent) ⊎ (status ≡ ReadFault)) × (lines ≡ []))

  -- the bytes are the lines of a run with this status and an explanation, or what is shown of a run that comes to its end
  pub record IsExplained (status : Status) (bytes : List ℕ) : Type 0 where
    pub lines : List ℕ
    pub are : AreLines status lines
    pub begins : status ≢ Done → BeginsWith lines bytes
    pub ends : status ≡ Done → Shows lines bytes

  -- that of this status was written
  pub record WroteExplained (before now : Option (List ℕ)) (status : Status) : Type 0 where
    pub bytes : List ℕ
    pub explained : IsExplained status bytes
    pub written : now ≡ append_known before bytes

  -- a prefix of what the run had written otherwise was written
  pub record WroteSome (before now : Option (List ℕ)) : Type 0 where
    pub status : Status
    pub bytes : List ℕ
    pub explained : IsExplained status bytes
    pub part : WrotePrefix before now bytes

  -- what a run that ended with this status wrote: nothing where memory ran out, a prefix, or all
  abbrev pub Explained : Option (List ℕ) → Option (List ℕ) → Status → Type 0
  Explained before now status =
      ((status ≡ NoMemory) × (now ≡ before)) ⊎ ((status ≡ WriteFault) × WroteSome before now) ⊎ WroteExplained before now status
