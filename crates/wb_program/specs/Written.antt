-- What a run writes.
use Rattle.std.specs.Prelude.{◌≡◌, ◌<◌, ◌⊎◌, ℕ, Option, List, length, take}
use Rattle.std.specs.Io.KnownBytes.{append_known}
use Rattle.wb_program_texts.specs.status.Status.{Status}
use Rattle.wb_program_texts.specs.status.Status.TheVariants.{Absent, ReadFault, WriteFault, NoMemory}

-- the first bytes of a report were written, and not all
pub record WrotePrefix (before now : Option (List ℕ)) (report : List ℕ) : Type 0 where
  pub count : ℕ
  pub cut : count < length report
  pub written : now ≡ append_known before (take count report)

-- a run with this status has no report
abbrev pub WritesNothing : Status → Type 0
WritesNothing status = (status ≡ Absent) ⊎ (status ≡ ReadFault) ⊎ (status ≡ NoMemory)

-- which bytes are the report of a status
module _ (IsReport : Status → List ℕ → Type 0) where
  -- the whole report of this status was written
  pub record WroteWhole (before now : Option (List ℕ)) (status : Status) : Type 0 where
    pub bytes : List ℕ
    pub report : IsReport status bytes
    pub written : now ≡ append_known before bytes

  -- a prefix of a report that the run had otherwise was written
  pub record WroteSome (before now : Option (List ℕ)) : Type 0 where
    pub status : Status
    pub bytes : List ℕ
    pub report : IsReport status bytes
    pub part : WrotePrefix before now bytes

  -- what a run that ended with this status wrote: nothing, a prefix of its report, or the whole of it
  abbrev pub Wrote : Option (List ℕ) → Option (List ℕ) → Status → Type 0
  Wrote before now status =
      (WritesNothing status × (now ≡ before)) ⊎ ((status ≡ WriteFault) × WroteSome before now) ⊎ WroteWhole before now status
