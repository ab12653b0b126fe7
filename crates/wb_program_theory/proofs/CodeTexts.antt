-- The text of a refusal begins with its code.
use Rattle.std.proofs.Common.{◌++◌, [], refl}
use Rattle.std.specs.Fmt.{decimal}
use lib.Chars.{codes}
use Rattle.wb_report.specs.Parts.{conflict_text, lookahead_text, share_text, spaced, vertices_text}
use Rattle.wb_report.specs.Reasons.{reader_text}
use Rattle.wb_report.specs.declared.attribute_reason.AttributeReason.{AttributeReason}
use Rattle.wb_report.specs.declared.attribute_reason.AttributeReason.TheVariants as a
use Rattle.wb_report.specs.declared.certificate_reason.CertificateReason.{CertificateReason}
use Rattle.wb_report.specs.declared.certificate_reason.CertificateReason.TheVariants as k
use Rattle.wb_report.specs.declared.edits_reason.EditsReason.{EditsReason}
use Rattle.wb_report.specs.declared.edits_reason.EditsReason.TheVariants as u
use Rattle.wb_report.specs.declared.extension_reason.ExtensionReason.{ExtensionReason}
use Rattle.wb_report.specs.declared.extension_reason.ExtensionReason.TheVariants as e
use Rattle.wb_report.specs.declared.grammar_reason.GrammarReason.{GrammarReason}
use Rattle.wb_report.specs.declared.grammar_reason.GrammarReason.TheVariants as g
use Rattle.wb_report.specs.declared.refusal.Refusal.{Refusal}
use Rattle.wb_report.specs.declared.refusal.Refusal.TheVariants as r
use Rattle.wb_report.specs.declared.spec_reason.SpecReason.{SpecReason}
use Rattle.wb_report.specs.declared.spec_reason.SpecReason.TheVariants as s
use Rattle.wb_report.specs.declared.spec_reason.TermReason.{TermReason}
use Rattle.wb_report.specs.declared.spec_reason.TermReason.TheVariants as t
use Rattle.wb_program_theory.specs.Codes.{BeginsWithCode}

spec_begins : (reason : SpecReason) → BeginsWithCode (r.Specification reason)
spec_begins (s.Syntax offset) = (codes " at " ++ decimal offset, refl)
spec_begins s.TooLong = ([], refl)
spec_begins s.WrongFormat = ([], refl)
spec_begins (s.BadRegex offset) = (codes " at " ++ decimal offset, refl)
spec_begins (s.MatchesEmpty terminal) = (codes " " ++ terminal, refl)
spec_begins (s.Unknown name) = (codes " " ++ name, refl)
spec_begins (s.Duplicate name) = (codes " " ++ name, refl)
spec_begins (s.Orphan name) = (codes " " ++ name, refl)
spec_begins (s.WrongKind name) = (codes " " ++ name, refl)
spec_begins (s.TypeMismatch offset) = (codes " at " ++ decimal offset, refl)
spec_begins (s.WrongArity offset) = (codes " at " ++ decimal offset, refl)

grammar_begins : (reason : GrammarReason) → BeginsWithCode (r.Grammar reason)
grammar_begins (g.PreferenceCycle terminals) = (spaced terminals, refl)
grammar_begins g.NoStart = (codes " no start", refl)
grammar_begins (g.Unreachable nonterminal) = (codes " unreachable " ++ nonterminal, refl)
grammar_begins (g.Unproductive nonterminal) = (codes " unproductive " ++ nonterminal, refl)
grammar_begins (g.UnitCycle nonterminals) = (spaced nonterminals, refl)
grammar_begins (g.HiddenLeftRecursion nonterminals) = (spaced nonterminals, refl)
grammar_begins (g.Conflict prefix conflict) = (codes " after" ++ spaced prefix ++ conflict_text conflict, refl)
grammar_begins (g.Clash prefix left right text) =
    (codes " after" ++ spaced prefix ++ codes ": " ++ share_text left right text, refl)

extension_begins : (reason : ExtensionReason) → BeginsWithCode (r.Extension reason)
extension_begins (e.NotBridge production) = (codes " " ++ production, refl)
extension_begins (e.MarkerElsewhere marker) = (codes " " ++ marker, refl)
extension_begins (e.NotExtensible production) = (codes " " ++ production, refl)
extension_begins (e.MarkerClash marker terminal text) = (codes " " ++ share_text marker terminal text, refl)
extension_begins (e.Lookahead prefix item terminal) = (codes " after" ++ spaced prefix ++ lookahead_text item terminal, refl)
extension_begins (e.NewLookahead prefix item terminal) = (codes " after" ++ spaced prefix ++ lookahead_text item terminal, refl)
extension_begins (e.NewConflict prefix conflict) =
    (codes " after" ++ spaced prefix ++ codes " conflict" ++ conflict_text conflict, refl)
extension_begins (e.NewClash prefix left right text) =
    (codes " after" ++ spaced prefix ++ codes " " ++ share_text left right text, refl)

attribute_begins : (reason : AttributeReason) → BeginsWithCode (r.Attributes reason)
attribute_begins (a.StartInherits attribute) = (codes " " ++ attribute, refl)
attribute_begins (a.NoForward production) = (codes " " ++ production, refl)
attribute_begins (a.NoEquation production attribute) = (codes " " ++ production ++ codes " " ++ attribute, refl)
attribute_begins (a.NoInherited production label attribute) =
    (codes " " ++ production ++ codes " " ++ label ++ codes "." ++ attribute, refl)
attribute_begins (a.LacksForward nonterminal attribute inherited) =
    (codes " " ++ nonterminal ++ codes " " ++ attribute ++ codes " lacks " ++ inherited, refl)
attribute_begins (a.Reads production reader inherited) =
    (codes " " ++ production ++ codes " " ++ reader_text reader ++ codes " reads " ++ inherited, refl)
attribute_begins (a.Cycle production vertices) = (codes " " ++ production ++ codes ":" ++ vertices_text vertices, refl)
attribute_begins (a.ForwardReads production attribute inherited) =
    (codes " " ++ production ++ codes " forward." ++ attribute ++ codes " reads " ++ inherited, refl)

term_begins : (reason : TermReason) → BeginsWithCode (r.Term reason)
term_begins (t.Syntax offset) = (codes " at " ++ decimal offset, refl)
term_begins (t.Unknown offset) = (codes " at " ++ decimal offset, refl)
term_begins (t.WrongChild offset) = (codes " at " ++ decimal offset, refl)

certificate_begins : (reason : CertificateReason) → BeginsWithCode (r.Certificate reason)
certificate_begins (k.Syntax offset) = (codes " at " ++ decimal offset, refl)
certificate_begins (k.WrongLine line) = (codes " line " ++ decimal line, refl)
certificate_begins (k.Missing kernel) = (codes " kernel " ++ decimal kernel, refl)
certificate_begins k.TooLong = ([], refl)

edits_begins : (reason : EditsReason) → BeginsWithCode (r.Edits reason)
edits_begins (u.Syntax offset) = (codes " at " ++ decimal offset, refl)
edits_begins (u.OutOfRange line) = (codes " line " ++ decimal line, refl)
edits_begins (u.TextTooLong line) = (codes " line " ++ decimal line, refl)
edits_begins u.TooLong = ([], refl)

pub begins : (refusal : Refusal) → BeginsWithCode refusal
begins (r.Specification reason) = spec_begins reason
begins (r.Grammar reason) = grammar_begins reason
begins (r.Extension reason) = extension_begins reason
begins (r.Attributes reason) = attribute_begins reason
begins (r.Term reason) = term_begins reason
begins (r.Certificate reason) = certificate_begins reason
begins (r.Edits reason) = edits_begins reason
