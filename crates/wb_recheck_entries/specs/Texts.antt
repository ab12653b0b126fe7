-- When a text is a certificate of a grammar, and why it isn't: the first fault.
use Rattle.std.specs.Prelude.{◌≡◌, ◌+◌, ◌⊎◌, ℕ, List, length}
use Rattle.wb_base.specs.Grammar.{GrammarView}
use Rattle.wb_recheck_theory.specs.declared.line.Line.{Line}
use Rattle.wb_recheck_theory.specs.declared.entry.Entry.{Entry}
use Rattle.wb_recheck_theory.specs.Certificates.{IsCertificate}
use Rattle.wb_recheck_theory.specs.Lines.{AreGoodLines}
use Rattle.wb_recheck_text.specs.Faults.{IsFirstFault, IsTextOf}
use Rattle.wb_recheck_text.specs.declared.certificate.Certificate.{Certificate}
use Rattle.wb_recheck_text.specs.declared.certificate.Head.{Head}
use Rattle.wb_recheck_text.specs.declared.certificate.Head.TheVariants as h
use Rattle.wb_recheck_lines.specs.Faults.{IsFirstWrongLine, LacksMove}
use Rattle.wb_recheck_entries.specs.Faults.{AreRightEntries, IsFirstWrongEntry, LacksEntry}
use Rattle.wb_recheck_entries.specs.declared.fault.CertificateFault.{CertificateFault}
use Rattle.wb_recheck_entries.specs.declared.fault.CertificateFault.TheVariants.{Syntax, WrongLine, Missing, NoMemory}
use Rattle.wb_recheck_entries.specs.declared.owner.Owner.{Owner}
use Rattle.wb_recheck_entries.specs.declared.owner.Owner.TheVariants as o

-- the head is that of a host of this name
abbrev pub IsHostHead : List ℕ → Head → Type 0
IsHostHead name (h.Host found) = name ≡ found
IsHostHead name (h.Extension found base) = ⊥

-- the head is that of an extension of this name for a host of that name
abbrev pub IsExtensionHead : List ℕ → List ℕ → Head → Type 0
IsExtensionHead name host (h.Host found) = ⊥
IsExtensionHead name host (h.Extension found base) = (name ≡ found) × (host ≡ base)

-- the head names the owner
abbrev pub IsHeadOf : Owner → Head → Type 0
IsHeadOf (o.Host name) head = IsHostHead name.now head
IsHeadOf (o.Extension name host) head = IsExtensionHead name.now host.now head

-- the certificate is one of the grammar, and its head names the owner
pub record IsCertificateOf (names : Head → Type 0) (g : GrammarView) (c : Certificate) : Type 0 where
  pub head : names c.head
  pub lists : IsCertificate g c.lines c.entries

-- the text is that of such a certificate
pub record HasCertificate (text : List ℕ) (names : Head → Type 0) (g : GrammarView) : Type 0 where
  pub certificate : Certificate
  pub text_is : IsTextOf text certificate
  pub is : IsCertificateOf names g certificate

-- the line of this number is the first wrong one, where the first kernel's is the third, and those of entries are behind those of kernels
abbrev pub IsWrongLine : GrammarView → List Line → List Entry → ℕ → Type 0
IsWrongLine g lines entries n =
    ((m : ℕ) × IsFirstWrongLine g lines m × (n ≡ m + 3))
    ⊎ (AreGoodLines g lines × ((m : ℕ) × IsFirstWrongEntry g lines entries m × (n ≡ m + length lines + 3)))

-- lines and entries are right, and of this kernel a move isn't listed or something that follows from an entry; or there is no entry,
-- and the kernel is 0
pub record IsMissing (g : GrammarView) (lines : List Line) (entries : List Entry) (k : ℕ) : Type 0 where
  pub lines_good : AreGoodLines g lines
  pub entries_right : AreRightEntries g lines entries
  pub lacks : LacksMove g lines k ⊎ LacksEntry g lines entries k

-- the fault is the first of a certificate: the second line doesn't name the owner, or it does and there is a fault of lines and entries
abbrev pub IsFaultOf : (Head → Type 0) → GrammarView → Certificate → CertificateFault → Type 0
IsFaultOf names g c (Syntax at) = ⊥
IsFaultOf names g c (WrongLine n) = ((n ≡ 2) × (¬ names c.head)) ⊎ (names c.head × IsWrongLine g c.lines c.entries n)
IsFaultOf names g c (Missing k) = names c.head × IsMissing g c.lines c.entries k
IsFaultOf names g c (NoMemory error) = Unit {0}

-- the text is that of a certificate with this fault
pub record HasFault (text : List ℕ) (names : Head → Type 0) (g : GrammarView) (fault : CertificateFault) : Type 0 where
  pub certificate : Certificate
  pub text_is : IsTextOf text certificate
  pub is : IsFaultOf names g certificate fault

-- the fault is the first of a text: it is that of no certificate, or else its certificate has the fault
abbrev pub IsFault : List ℕ → (Head → Type 0) → GrammarView → CertificateFault → Type 0
IsFault text names g (Syntax at) = IsFirstFault text at
IsFault text names g (WrongLine n) = HasFault text names g (WrongLine n)
IsFault text names g (Missing k) = HasFault text names g (Missing k)
IsFault text names g (NoMemory error) = Unit {0}
