-- What stays in a workbench, and in a table of it.
use Rattle.std.specs.Prelude.{◌≡◌, List}
use Rattle.wb_library_handles.specs.Handles.{IsNamed}
use Rattle.wb_library_handles.specs.declared.handle.Handle.{Handle}
use Rattle.wb_library_handles.specs.declared.slot.Slot.{Slot}
use Rattle.wb_session_library.specs.declared.workbench.Workbench.{Workbench}

-- hosts are as before
abbrev pub KeepsHosts : (old new : Workbench) → Type 0
KeepsHosts old new = new.hosts ≡ old.hosts

-- languages are
abbrev pub KeepsLanguages : (old new : Workbench) → Type 0
KeepsLanguages old new = new.languages ≡ old.languages

-- texts are
abbrev pub KeepsTexts : (old new : Workbench) → Type 0
KeepsTexts old new = new.texts ≡ old.texts

-- the note and the reason are
abbrev pub KeepsNote : (old new : Workbench) → Type 0
KeepsNote old new = (new.note ≡ old.note) × (new.reason ≡ old.reason)

-- all but hosts, the note and the reason is as before
abbrev pub KeepsBesideHosts : (old new : Workbench) → Type 0
KeepsBesideHosts old new = KeepsLanguages old new × KeepsTexts old new

-- all but texts is
abbrev pub KeepsButTexts : (old new : Workbench) → Type 0
KeepsButTexts old new = KeepsHosts old new × KeepsLanguages old new × KeepsNote old new

-- all but the note is
abbrev pub KeepsTables : (old new : Workbench) → Type 0
KeepsTables old new = KeepsHosts old new × KeepsLanguages old new × KeepsTexts old new × (new.reason ≡ old.reason)

-- what the handle names is the same in both
abbrev pub StaysIn : {T : Type 0} → (old new : List (Slot T)) → Handle → Type 0
StaysIn {T} old new handle = (value : T) → IsNamed old handle value → IsNamed new handle value
