-- What is shown of refusals.
use Rattle.std.specs.Prelude.{◌≡◌, ◌≢◌, ℕ, List, Option, Some, None, Result, Ok, Err}
use Rattle.wb_certify_shown.specs.Extensions.{extension_refusal_shown}
use Rattle.wb_certify_shown.specs.Shows.{refusal_shown}
use Rattle.wb_certify_files.specs.declared.extension_refusal.FileRefusal.{FileRefusal}
use Rattle.wb_certify_files.specs.declared.extension_refusal.FileRefusal.TheVariants as f
use Rattle.wb_certify_files.specs.declared.host_refusal.HostRefusal.{HostRefusal}
use Rattle.wb_certify_files.specs.declared.host_refusal.HostRefusal.TheVariants as h
use Rattle.wb_recheck.specs.certify_refusal.CertifyRefusal.{CertifyRefusal}
use Rattle.wb_recheck.specs.certify_refusal.CertifyRefusal.TheVariants as c
use Rattle.wb_recheck.specs.declared.refusal.RecheckRefusal.{RecheckRefusal}
use Rattle.wb_recheck.specs.declared.refusal.RecheckRefusal.TheVariants as r
use Rattle.wb_report.specs.declared.certificate_reason.CertificateReason.TheVariants as q
use Rattle.wb_report.specs.declared.refusal.Refusal.{Refusal}
use Rattle.wb_syntax_resolved.specs.declared.resolved.ResolvedParts.{ResolvedParts}
use Rattle.wb_certify_files.specs.RecheckRefusals.{IsMemory}
use Rattle.wb_certify_files.specs.declared.contents_refusal.ContentsRefusal.{ContentsRefusal}
use Rattle.wb_certify_files.specs.declared.contents_refusal.ContentsRefusal.TheVariants as k
use Rattle.wb_certify_files.specs.declared.recheck_shown.Owner.{Owner}
use Rattle.wb_certify_files.specs.declared.recheck_shown.Owner.TheVariants.{Host, Extension}

-- the line of a rule that fails for a value, by whose value it is
abbrev pub line_of : Owner → ResolvedParts → CertifyRefusal → Option Refusal
line_of Host = refusal_shown
line_of Extension = extension_refusal_shown

-- the refusal of a host, as one of a file
abbrev pub of_host : HostRefusal → FileRefusal
of_host (h.Specification shown) = f.Specification shown
of_host (h.Certification shown) = f.Certification shown
of_host (h.NoMemory error) = f.NoMemory error

-- the refusal of a file by a rule, as the sort that the rule is of
abbrev pub sorted : CertifyRefusal → Refusal → FileRefusal
sorted (c.Types refusal) shown = f.Specification shown
sorted other shown = f.Certification shown

-- the refusal by a rule, which is shown so where it has a line, is handed on so; or memory ran out
abbrev pub IsRuleShown : Option Refusal → CertifyRefusal → ContentsRefusal → Type 0
IsRuleShown line rule (k.File (f.NoMemory error)) = Unit {0}
IsRuleShown line rule handed = (shown : Refusal) × (line ≡ Some shown) × (handed ≡ k.File (sorted rule shown))

-- the refusal of a value is handed on so, where rules have these lines
abbrev pub IsShownAs : (line : CertifyRefusal → Option Refusal) → RecheckRefusal → ContentsRefusal → Type 0
IsShownAs line (r.Certify rule) handed = IsRuleShown (line rule) rule handed
IsShownAs line (r.Syntax place) handed = handed ≡ k.Certificate (q.Syntax place)
IsShownAs line (r.WrongLine number) handed = handed ≡ k.Certificate (q.WrongLine number)
IsShownAs line (r.Missing kernel) handed = handed ≡ k.Certificate (q.Missing kernel)
IsShownAs line (r.NoMemory error) handed = handed ≡ k.File (f.NoMemory error)

-- where the refusal is by a rule, that has a line
abbrev pub HasLine : (line : CertifyRefusal → Option Refusal) → RecheckRefusal → Type 0
HasLine line (r.Certify rule) = line rule ≢ None
HasLine line other = Unit {0}

-- a copy of the name, or memory ran out
abbrev pub IsCopyOrMemory : List ℕ → Result (List ℕ) ContentsRefusal → Type 0
IsCopyOrMemory name (Ok copy) = copy ≡ name
IsCopyOrMemory name (Err refusal) = IsMemory refusal
