-- The certificate of a certified host, or of a certified extension with its host, as it is written.
use Rattle.std.specs.Prelude.{◌≡◌, ℕ, List, Some}
use Rattle.wb_base.specs.Grammar.{GrammarView}
use Rattle.wb_certify.specs.Extensions.{IsOneExtension}
use Rattle.wb_marking_holes.specs.Holes.{with_holes_of}
use Rattle.wb_recheck_text.specs.Faults.{IsTextOf}
use Rattle.wb_recheck_text.specs.declared.certificate.Head.{Head}
use Rattle.wb_recheck_text.specs.declared.certificate.Head.TheVariants.{Host, Extension}
use Rattle.wb_recheck_theory.specs.declared.line.Line.{Line}
use Rattle.wb_recheck_theory.specs.declared.entry.Entry.{Entry}
use Rattle.wb_recheck_writer.specs.Order.{IsWrittenCertificate}
use Rattle.wb_syntax_resolved.specs.declared.resolved.ResolvedParts.{ResolvedParts}

-- the text is that of the grammar's certificate as it is written, with this head
pub record IsCertificateText (g : GrammarView) (head : Head) (text : List ℕ) : Type 0 where
  pub lines : List Line
  pub entries : List Entry
  pub written : IsWrittenCertificate g lines entries
  pub is : IsTextOf text (record { head = head; lines = lines; entries = entries })

-- the bytes are the certificate of a resolved host: that of its grammar with holes, with its name
pub record IsHostCertificate (r : ResolvedParts) (bytes : List ℕ) : Type 0 where
  pub grammar : GrammarView
  pub start : r.grammar ≡ Some grammar
  pub text : IsCertificateText (with_holes_of grammar r.extensible) (Host r.host) bytes

-- the bytes are the certificate of an extension, where this is its host with it: that of their grammar with holes, with the names of both
pub record IsExtensionCertificate (r : ResolvedParts) (bytes : List ℕ) : Type 0 where
  pub name : List ℕ
  pub one : IsOneExtension r name
  pub grammar : GrammarView
  pub start : r.grammar ≡ Some grammar
  pub text : IsCertificateText (with_holes_of grammar r.extensible) (Extension name r.host) bytes
