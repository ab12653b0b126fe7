-- With which code and place a refusal of contents is told, by its kind.
use Rattle.wb_compose_files.specs.extension_refusal.FileRefusal.{FileRefusal}
use Rattle.wb_compose_files.specs.extension_refusal.FileRefusal.TheVariants as f
use Rattle.wb_compose_files.specs.host_refusal.HostRefusal.{HostRefusal}
use Rattle.wb_compose_files.specs.host_refusal.HostRefusal.TheVariants as h
use Rattle.wb_compose_files.specs.declared.refusal.NextRefusal.{NextRefusal}
use Rattle.wb_compose_files.specs.declared.refusal.NextRefusal.TheVariants as n
use Rattle.wb_session_library.specs.Reasons.{IsNoReason, IsReason}
use Rattle.wb_session_library.specs.declared.reason.Reason.{Reason}

-- the reason is that of contents that are no host
abbrev pub IsHostReason : HostRefusal → Reason → Type 0
IsHostReason (h.Specification refusal) reason = IsReason refusal reason
IsHostReason (h.Certification refusal) reason = IsReason refusal reason
IsHostReason (h.NoMemory error) reason = IsNoReason reason

-- the reason is that of contents that are no extension
abbrev pub IsFileReason : FileRefusal → Reason → Type 0
IsFileReason (f.Specification refusal) reason = IsReason refusal reason
IsFileReason (f.WrongHost host) reason = IsNoReason reason
IsFileReason (f.Certification refusal) reason = IsReason refusal reason
IsFileReason (f.NoMemory error) reason = IsNoReason reason

-- the reason is that of contents that can't follow other extensions
abbrev pub IsNextReason : NextRefusal → Reason → Type 0
IsNextReason (n.Header refusal) reason = IsFileReason refusal reason
IsNextReason (n.Duplicate name) reason = IsNoReason reason
IsNextReason (n.Later refusal) reason = IsFileReason refusal reason
