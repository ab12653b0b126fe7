-- How the report of a command is stated: a list of checks, in the order in which they are made.
use Rattle.std.specs.Prelude.{◌≡◌, ◌⊎◌, ℕ, List}
use Rattle.wb_program_files.specs.declared.status.Status.{Status}

-- which status and bytes a command gives
abbrev pub Report : Type 1
Report = Status → List ℕ → Type 0

-- the run ends with this status, and with bytes that meet this
abbrev pub Ends : Status → (List ℕ → Type 0) → Report
Ends ending Line status bytes = (status ≡ ending) × Line bytes

-- a check: the run ends here with its status, or the check passes with what the rest of the report speaks of
abbrev pub Check : {X : Type 0} → Status → (List ℕ → Type 0) → (X → Type 0) → (X → Report) → Report
Check {X} ending Line Passes rest status bytes = Ends ending Line status bytes ⊎ ((x : X) × Passes x × rest x status bytes)
