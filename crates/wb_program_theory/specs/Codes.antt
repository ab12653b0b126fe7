-- The code of a refusal, and that words and files have one.
use Rattle.std.specs.Prelude.{◌≡◌, ◌⊎◌, ◌++◌, ℕ, Some, List}
use lib.Chars.{codes}
use Rattle.wb_operations.specs.Operations.{Operations}
use Rattle.wb_report.specs.declared.attribute_reason.AttributeReason.{AttributeReason}
use Rattle.wb_report.specs.declared.attribute_reason.AttributeReason.TheVariants as a
use Rattle.wb_report.specs.declared.certificate_reason.CertificateReason.{CertificateReason}
use Rattle.wb_report.specs.declared.certificate_reason.CertificateReason.TheVariants as k
use Rattle.wb_report.specs.declared.edits_reason.EditsReason.{EditsReason}
use Rattle.wb_report.specs.declared.edits_reason.EditsReason.TheVariants as u
use Rattle.wb_report.specs.declared.extension_reason.ExtensionReason.{ExtensionReason}
use Rattle.wb_report.specs.declared.extension_reason.ExtensionReason.TheVariants as e
use Rattle.wb_report.specs.declared.grammar_reason.GrammarReason.{GrammarReason}
use Rattle.wb_report.specs.declared.grammar_reason.GrammarReason.TheVariants as g
use Rattle.wb_report.specs.declared.outcome.Outcome.TheVariants as o
use Rattle.wb_report.specs.declared.refusal.Refusal.{Refusal}
use Rattle.wb_report.specs.declared.refusal.Refusal.TheVariants as r
use Rattle.wb_report.specs.declared.spec_reason.SpecReason.{SpecReason}
use Rattle.wb_report.specs.declared.spec_reason.SpecReason.TheVariants as s
use Rattle.wb_report.specs.declared.spec_reason.TermReason.{TermReason}
use Rattle.wb_report.specs.declared.spec_reason.TermReason.TheVariants as t
use Rattle.wb_report.specs.Lines.{report_of}
use Rattle.wb_report.specs.Reasons.{refusal_text}
use Rattle.wb_world.specs.Shelf.{Files}
use Rattle.wb_program.specs.status.Status.{Status}
use Rattle.wb_program.specs.status.Status.TheVariants.{NotCertified, SpecRefused}
use Rattle.wb_program.specs.Report.{IsReport}

-- the code of a rule of what is written, of names or of kinds
abbrev pub spec_code : SpecReason → List ℕ
spec_code (s.Syntax offset) = codes "S1"
spec_code s.TooLong = codes "S2"
spec_code s.WrongFormat = codes "S3"
spec_code (s.BadRegex offset) = codes "R1"
spec_code (s.MatchesEmpty terminal) = codes "R2"
spec_code (s.Unknown name) = codes "N1"
spec_code (s.Duplicate name) = codes "N2"
spec_code (s.Orphan name) = codes "N3"
spec_code (s.WrongKind name) = codes "N4"
spec_code (s.TypeMismatch offset) = codes "Y1"
spec_code (s.WrongArity offset) = codes "Y2"

-- that of a rule of grammars and scanners
abbrev pub grammar_code : GrammarReason → List ℕ
grammar_code (g.PreferenceCycle terminals) = codes "G6"
grammar_code g.NoStart = codes "G1"
grammar_code (g.Unreachable nonterminal) = codes "G1"
grammar_code (g.Unproductive nonterminal) = codes "G1"
grammar_code (g.UnitCycle nonterminals) = codes "G2"
grammar_code (g.HiddenLeftRecursion nonterminals) = codes "G3"
grammar_code (g.Conflict prefix conflict) = codes "G4"
grammar_code (g.Clash prefix left right text) = codes "G5"

-- that of a rule on what extensions add to their host
abbrev pub extension_code : ExtensionReason → List ℕ
extension_code (e.NotBridge production) = codes "E1"
extension_code (e.MarkerElsewhere marker) = codes "E2"
extension_code (e.NotExtensible production) = codes "E3"
extension_code (e.MarkerClash marker terminal text) = codes "E4"
extension_code (e.Lookahead prefix item terminal) = codes "E5"
extension_code (e.NewLookahead prefix item terminal) = codes "E6"
extension_code (e.NewConflict prefix conflict) = codes "E6"
extension_code (e.NewClash prefix left right text) = codes "E6"

-- that of a rule of attributes
abbrev pub attribute_code : AttributeReason → List ℕ
attribute_code (a.StartInherits attribute) = codes "A5"
attribute_code (a.NoForward production) = codes "E7"
attribute_code (a.NoEquation production attribute) = codes "A1"
attribute_code (a.NoInherited production label attribute) = codes "A2"
attribute_code (a.LacksForward nonterminal attribute inherited) = codes "A6"
attribute_code (a.Reads production reader inherited) = codes "A3"
attribute_code (a.Cycle production vertices) = codes "A4"
attribute_code (a.ForwardReads production attribute inherited) = codes "E8"

-- that of a rule of terms
abbrev pub term_code : TermReason → List ℕ
term_code (t.Syntax offset) = codes "T1"
term_code (t.Unknown offset) = codes "T2"
term_code (t.WrongChild offset) = codes "T3"

-- that of a rule of certificates
abbrev pub certificate_code : CertificateReason → List ℕ
certificate_code (k.Syntax offset) = codes "K1"
certificate_code (k.WrongLine line) = codes "K2"
certificate_code (k.Missing kernel) = codes "K3"
certificate_code k.TooLong = codes "K4"

-- that of a rule of lists of edits
abbrev pub edits_code : EditsReason → List ℕ
edits_code (u.Syntax offset) = codes "U1"
edits_code (u.OutOfRange line) = codes "U2"
edits_code (u.TextTooLong line) = codes "U3"
edits_code u.TooLong = codes "U4"

-- the code of a refusal
abbrev pub code_of : Refusal → List ℕ
code_of (r.Specification reason) = spec_code reason
code_of (r.Grammar reason) = grammar_code reason
code_of (r.Extension reason) = extension_code reason
code_of (r.Attributes reason) = attribute_code reason
code_of (r.Term reason) = term_code reason
code_of (r.Certificate reason) = certificate_code reason
code_of (r.Edits reason) = edits_code reason

-- the text of a refusal begins with its code
abbrev pub BeginsWithCode : Refusal → Type 0
BeginsWithCode refusal = (rest : List ℕ) × (refusal_text refusal ≡ code_of refusal ++ rest)

-- the refusal is by a rule of what is written: S1, S2, S3, R1 or R2
abbrev pub IsOfWritten : Refusal → Type 0
IsOfWritten (r.Specification (s.Syntax offset)) = Unit {0}
IsOfWritten (r.Specification s.TooLong) = Unit {0}
IsOfWritten (r.Specification s.WrongFormat) = Unit {0}
IsOfWritten (r.Specification (s.BadRegex offset)) = Unit {0}
IsOfWritten (r.Specification (s.MatchesEmpty terminal)) = Unit {0}
IsOfWritten other = ⊥

-- two lines refuse one file by rules of one code; and they are one line where the rule is of what is written
pub record ShowOneCode (bytes others : List ℕ) : Type 0 where
  pub file : List ℕ
  pub first : Refusal
  pub second : Refusal
  pub line : bytes ≡ report_of (o.Refused file first)
  pub other_line : others ≡ report_of (o.Refused file second)
  pub code : code_of first ≡ code_of second
  pub written : IsOfWritten first → bytes ≡ others

-- the status says that a specification is refused, or that it isn't certified
abbrev pub IsCodeStatus : Status → Type 0
IsCodeStatus status = (status ≡ SpecRefused) ⊎ (status ≡ NotCertified)

-- words and known files have one code at most with which a specification is refused
abbrev pub HaveOneCode : Type 0
HaveOneCode = (operations : Operations) (words : List (List ℕ)) (files : Files) (status other : Status) (bytes others : List ℕ)
    → IsCodeStatus status → IsReport operations words (Some files) status bytes → IsReport operations words (Some files) other others
    → ShowOneCode bytes others
