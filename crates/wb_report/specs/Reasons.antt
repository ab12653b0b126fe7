-- Why a file is refused: the text after its name, one for each rule, in the order in which rules are tested.
use Rattle.std.specs.Prelude.{ℕ, List, ◌++◌, Option, Some, None}
use Rattle.std.specs.Fmt.{decimal}
use lib.Chars.{codes}
use Rattle.wb_report.specs.declared.attribute_reason.AttributeReason.{AttributeReason}
use Rattle.wb_report.specs.declared.attribute_reason.AttributeReason.TheVariants as a
use Rattle.wb_report.specs.declared.certificate_reason.CertificateReason.{CertificateReason}
use Rattle.wb_report.specs.declared.certificate_reason.CertificateReason.TheVariants as k
use Rattle.wb_report.specs.declared.edits_reason.EditsReason.{EditsReason}
use Rattle.wb_report.specs.declared.edits_reason.EditsReason.TheVariants as u
use Rattle.wb_report.specs.declared.extension_reason.ExtensionReason.{ExtensionReason}
use Rattle.wb_report.specs.declared.extension_reason.ExtensionReason.TheVariants as e
use Rattle.wb_report.specs.declared.grammar_reason.GrammarReason.{GrammarReason}
use Rattle.wb_report.specs.declared.grammar_reason.GrammarReason.TheVariants as g
use Rattle.wb_report.specs.declared.refusal.Refusal.{Refusal}
use Rattle.wb_report.specs.declared.refusal.Refusal.TheVariants as r
use Rattle.wb_report.specs.declared.spec_reason.SpecReason.{SpecReason}
use Rattle.wb_report.specs.declared.spec_reason.SpecReason.TheVariants as s
use Rattle.wb_report.specs.declared.spec_reason.TermReason.{TermReason}
use Rattle.wb_report.specs.declared.spec_reason.TermReason.TheVariants as t
use Rattle.wb_report.specs.Parts.{spaced, conflict_text, lookahead_text, share_text, vertices_text}

-- the rules of what is written, of names and of kinds
abbrev pub spec_text : SpecReason → List ℕ
spec_text (s.Syntax offset) = codes "S1 at " ++ decimal offset
spec_text s.TooLong = codes "S2"
spec_text s.WrongFormat = codes "S3"
spec_text (s.BadRegex offset) = codes "R1 at " ++ decimal offset
spec_text (s.MatchesEmpty terminal) = codes "R2 " ++ terminal
spec_text (s.Unknown name) = codes "N1 " ++ name
spec_text (s.Duplicate name) = codes "N2 " ++ name
spec_text (s.Orphan name) = codes "N3 " ++ name
spec_text (s.WrongKind name) = codes "N4 " ++ name
spec_text (s.TypeMismatch offset) = codes "Y1 at " ++ decimal offset
spec_text (s.WrongArity offset) = codes "Y2 at " ++ decimal offset

-- the rules of grammars and scanners
abbrev pub grammar_text : GrammarReason → List ℕ
grammar_text (g.PreferenceCycle terminals) = codes "G6" ++ spaced terminals
grammar_text g.NoStart = codes "G1 no start"
grammar_text (g.Unreachable nonterminal) = codes "G1 unreachable " ++ nonterminal
grammar_text (g.Unproductive nonterminal) = codes "G1 unproductive " ++ nonterminal
grammar_text (g.UnitCycle nonterminals) = codes "G2" ++ spaced nonterminals
grammar_text (g.HiddenLeftRecursion nonterminals) = codes "G3" ++ spaced nonterminals
grammar_text (g.Conflict prefix conflict) = codes "G4 after" ++ spaced prefix ++ conflict_text conflict
grammar_text (g.Clash prefix left right text) = codes "G5 after" ++ spaced prefix ++ codes ": " ++ share_text left right text

-- the rules on what extensions add to their host
abbrev pub extension_text : ExtensionReason → List ℕ
extension_text (e.NotBridge production) = codes "E1 " ++ production
extension_text (e.MarkerElsewhere marker) = codes "E2 " ++ marker
extension_text (e.NotExtensible production) = codes "E3 " ++ production
extension_text (e.MarkerClash marker terminal text) = codes "E4 " ++ share_text marker terminal text
extension_text (e.Lookahead prefix item terminal) = codes "E5 after" ++ spaced prefix ++ lookahead_text item terminal
extension_text (e.NewLookahead prefix item terminal) = codes "E6 after" ++ spaced prefix ++ lookahead_text item terminal
extension_text (e.NewConflict prefix conflict) = codes "E6 after" ++ spaced prefix ++ codes " conflict" ++ conflict_text conflict
extension_text (e.NewClash prefix left right text) = codes "E6 after" ++ spaced prefix ++ codes " " ++ share_text left right text

-- what a read is for: the attribute, or the forwarded tree
abbrev pub reader_text : Option (List ℕ) → List ℕ
reader_text None = codes "forward"
reader_text (Some attribute) = attribute

-- the rules of attributes
abbrev pub attribute_text : AttributeReason → List ℕ
attribute_text (a.StartInherits attribute) = codes "A5 " ++ attribute
attribute_text (a.NoForward production) = codes "E7 " ++ production
attribute_text (a.NoEquation production attribute) = codes "A1 " ++ production ++ codes " " ++ attribute
attribute_text (a.NoInherited production label attribute) =
    codes "A2 " ++ production ++ codes " " ++ label ++ codes "." ++ attribute
attribute_text (a.LacksForward nonterminal attribute inherited) =
    codes "A6 " ++ nonterminal ++ codes " " ++ attribute ++ codes " lacks " ++ inherited
attribute_text (a.Reads production reader inherited) =
    codes "A3 " ++ production ++ codes " " ++ reader_text reader ++ codes " reads " ++ inherited
attribute_text (a.Cycle production vertices) = codes "A4 " ++ production ++ codes ":" ++ vertices_text vertices
attribute_text (a.ForwardReads production attribute inherited) =
    codes "E8 " ++ production ++ codes " forward." ++ attribute ++ codes " reads " ++ inherited

-- the rules of terms
abbrev pub term_text : TermReason → List ℕ
term_text (t.Syntax offset) = codes "T1 at " ++ decimal offset
term_text (t.Unknown offset) = codes "T2 at " ++ decimal offset
term_text (t.WrongChild offset) = codes "T3 at " ++ decimal offset

-- the rules of certificates
abbrev pub certificate_text : CertificateReason → List ℕ
certificate_text (k.Syntax offset) = codes "K1 at " ++ decimal offset
certificate_text (k.WrongLine line) = codes "K2 line " ++ decimal line
certificate_text (k.Missing kernel) = codes "K3 kernel " ++ decimal kernel
certificate_text k.TooLong = codes "K4"

-- the rules of lists of edits
abbrev pub edits_text : EditsReason → List ℕ
edits_text (u.Syntax offset) = codes "U1 at " ++ decimal offset
edits_text (u.OutOfRange line) = codes "U2 line " ++ decimal line
edits_text (u.TextTooLong line) = codes "U3 line " ++ decimal line
edits_text u.TooLong = codes "U4"

-- why a file is refused
abbrev pub refusal_text : Refusal → List ℕ
refusal_text (r.Specification reason) = spec_text reason
refusal_text (r.Grammar reason) = grammar_text reason
refusal_text (r.Extension reason) = extension_text reason
refusal_text (r.Attributes reason) = attribute_text reason
refusal_text (r.Term reason) = term_text reason
refusal_text (r.Certificate reason) = certificate_text reason
refusal_text (r.Edits reason) = edits_text reason
