-- The code with which contents are refused, and the place in them that is told with it.
use Rattle.std.specs.Prelude.{◌≡◌, ◌∷◌, [], ℕ, take}
use Rattle.wb_report.specs.Reasons.{refusal_text}
use Rattle.wb_report.specs.declared.certificate_reason.CertificateReason.{CertificateReason}
use Rattle.wb_report.specs.declared.certificate_reason.CertificateReason.TheVariants as k
use Rattle.wb_report.specs.declared.edits_reason.EditsReason.{EditsReason}
use Rattle.wb_report.specs.declared.edits_reason.EditsReason.TheVariants as u
use Rattle.wb_report.specs.declared.refusal.Refusal.{Refusal}
use Rattle.wb_report.specs.declared.refusal.Refusal.TheVariants as r
use Rattle.wb_report.specs.declared.spec_reason.SpecReason.{SpecReason}
use Rattle.wb_report.specs.declared.spec_reason.SpecReason.TheVariants as s
use Rattle.wb_report.specs.declared.spec_reason.TermReason.{TermReason}
use Rattle.wb_report.specs.declared.spec_reason.TermReason.TheVariants as t
use Rattle.wb_session_library.specs.declared.reason.Reason.{Reason}

-- no place
abbrev pub nowhere : ℕ
nowhere = 18446744073709551615

-- the place that is told of what is written, of names or of kinds
abbrev pub spec_offset : SpecReason → ℕ
spec_offset (s.Syntax offset) = offset
spec_offset (s.BadRegex offset) = offset
spec_offset (s.TypeMismatch offset) = offset
spec_offset (s.WrongArity offset) = offset
spec_offset other = nowhere

-- the place that is told of a term
abbrev pub term_offset : TermReason → ℕ
term_offset (t.Syntax offset) = offset
term_offset (t.Unknown offset) = offset
term_offset (t.WrongChild offset) = offset

-- the place that is told of a certificate
abbrev pub certificate_offset : CertificateReason → ℕ
certificate_offset (k.Syntax offset) = offset
certificate_offset other = nowhere

-- the place that is told of a list of edits
abbrev pub edits_offset : EditsReason → ℕ
edits_offset (u.Syntax offset) = offset
edits_offset other = nowhere

-- the place that is told with a refusal
abbrev pub offset_of : Refusal → ℕ
offset_of (r.Specification reason) = spec_offset reason
offset_of (r.Grammar reason) = nowhere
offset_of (r.Extension reason) = nowhere
offset_of (r.Attributes reason) = nowhere
offset_of (r.Term reason) = term_offset reason
offset_of (r.Certificate reason) = certificate_offset reason
offset_of (r.Edits reason) = edits_offset reason

-- the code is the letter and the digit with which the refusal's text begins, and the place is the one that is told with it
pub record IsReason (refusal : Refusal) (reason : Reason) : Type 0 where
  pub code : take 2 (refusal_text refusal) ≡ reason.letter ∷ reason.digit ∷ []
  pub place : reason.offset ≡ offset_of refusal

-- there is neither code nor place
abbrev pub IsNoReason : Reason → Type 0
IsNoReason reason = (reason.letter ≡ 0) × (reason.digit ≡ 0) × (reason.offset ≡ nowhere)
