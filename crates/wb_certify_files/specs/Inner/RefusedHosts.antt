-- Refusals of a value by their sorts.
use Rattle.std.specs.Prelude.{◌≡◌, Some}
use Rattle.wb_recheck.specs.certify_refusal.CertifyRefusal.{CertifyRefusal}
use Rattle.wb_recheck.specs.certify_refusal.CertifyRefusal.TheVariants as c
use Rattle.wb_report.specs.declared.refusal.Refusal.{Refusal}
use Rattle.wb_syntax_resolved.specs.declared.resolved.ResolvedParts.{ResolvedParts}
use Rattle.wb_certify_shown.specs.Shows.{refusal_shown}
use Rattle.wb_certify_files.specs.declared.host_refusal.HostRefusal.{HostRefusal}
use Rattle.wb_certify_files.specs.declared.host_refusal.HostRefusal.TheVariants as h

-- it is that memory ran out
abbrev pub IsCertifyMemory : CertifyRefusal → Type 0
IsCertifyMemory (c.NoMemory error) = Unit {0}
IsCertifyMemory other = ⊥

-- what is shown, as the sort that the rule is of
abbrev pub IsSort : CertifyRefusal → Refusal → HostRefusal → Type 0
IsSort (c.Types refusal) shown sort = sort ≡ h.Specification shown
IsSort other shown sort = sort ≡ h.Certification shown

-- a value's refusal, as it is shown, as the sort that the rule is of; out of memory says nothing
abbrev pub IsShownAs : ResolvedParts → CertifyRefusal → HostRefusal → Type 0
IsShownAs r refusal (h.NoMemory error) = Unit {0}
IsShownAs r refusal sort = (shown : Refusal) × (refusal_shown r refusal ≡ Some shown) × IsSort refusal shown sort
