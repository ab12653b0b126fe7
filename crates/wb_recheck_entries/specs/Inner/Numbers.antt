-- The numbers of lines.
use Rattle.std.specs.Prelude.{◌≡◌, ◌+◌, ℕ}
use Rattle.wb_recheck_lines.specs.declared.refusal.LineRefusal.{LineRefusal}
use Rattle.wb_recheck_lines.specs.declared.refusal.LineRefusal.TheVariants as l
use Rattle.wb_recheck_entries.specs.declared.refusal.EntryRefusal.{EntryRefusal}
use Rattle.wb_recheck_entries.specs.declared.refusal.EntryRefusal.TheVariants as e
use Rattle.wb_recheck_entries.specs.declared.fault.CertificateFault.{CertificateFault}
use Rattle.wb_recheck_entries.specs.declared.fault.CertificateFault.TheVariants.{Syntax, WrongLine, Missing, NoMemory}

-- the fault is that of the line at a place after so many others that come behind the first two of the text; or the number is too large
abbrev pub IsLineFault : ℕ → ℕ → CertificateFault → Type 0
IsLineFault place before (Syntax at) = ⊥
IsLineFault place before (WrongLine n) = n ≡ place + before + 3
IsLineFault place before (Missing k) = ⊥
IsLineFault place before (NoMemory error) = Unit {0}

-- it is that memory ran out
abbrev pub IsMemory : CertificateFault → Type 0
IsMemory (Syntax at) = ⊥
IsMemory (WrongLine n) = ⊥
IsMemory (Missing k) = ⊥
IsMemory (NoMemory error) = Unit {0}

-- the fault is that of the line that is refused, or both are that memory ran out
abbrev pub TellsLine : LineRefusal → CertificateFault → Type 0
TellsLine (l.Wrong place) fault = IsLineFault place 0 fault
TellsLine (l.NoMemory error) fault = IsMemory fault

-- the fault is that of the entry that is refused, behind so many lines, or both are that memory ran out
abbrev pub TellsEntry : ℕ → EntryRefusal → CertificateFault → Type 0
TellsEntry lines (e.Wrong place) fault = IsLineFault place lines fault
TellsEntry lines (e.NoMemory error) fault = IsMemory fault
