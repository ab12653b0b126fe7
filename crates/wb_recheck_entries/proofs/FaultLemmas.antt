-- Faults of parts are faults of the whole.
use Rattle.std.proofs.Common.{◌≡◌, ℕ, ◌+◌, List, length, Option, Some, Result, Ok, Err, IfOk, IfErr, subst, inl, inr, arith}
use Rattle.std.specs.Prelude.{MatchOption, None}
use Rattle.wb_base.specs.Grammar.{GrammarView}
use Rattle.wb_recheck_theory.specs.declared.line.Line.{Line}
use Rattle.wb_recheck_theory.specs.declared.entry.Entry.{Entry}
use Rattle.wb_recheck_theory.specs.Lines.{AreGoodLines}
use Rattle.wb_recheck_text.specs.Faults.{IsTextOf}
use Rattle.wb_recheck_text.specs.declared.certificate.Certificate.{Certificate}
use Rattle.wb_recheck_text.specs.declared.certificate.Head.{Head}
use Rattle.wb_recheck_lines.specs.Faults.{IsFirstWrongLine, IsLineRefusal}
use Rattle.wb_recheck_lines.specs.declared.refusal.LineRefusal.{LineRefusal}
use Rattle.wb_recheck_lines.specs.declared.refusal.LineRefusal.TheVariants as l
use Rattle.wb_recheck_entries.specs.Faults.{IsEntryRefusal, IsFirstWrongEntry}
use Rattle.wb_recheck_entries.specs.declared.refusal.EntryRefusal.{EntryRefusal}
use Rattle.wb_recheck_entries.specs.declared.refusal.EntryRefusal.TheVariants as e
use Rattle.wb_recheck_entries.specs.declared.fault.CertificateFault.{CertificateFault}
use Rattle.wb_recheck_entries.specs.declared.fault.CertificateFault.TheVariants.{Syntax, WrongLine, Missing, NoMemory}
use Rattle.wb_recheck_entries.specs.Texts.{HasCertificate, IsCertificateOf, IsFault, IsFaultOf}
use Rattle.wb_recheck_entries.specs.Inner.Faults.{IsFaultIn}
use Rattle.wb_recheck_entries.specs.Inner.Numbers.{IsLineFault, IsMemory, TellsEntry, TellsLine}

module _ (text : List ℕ) (names : Head → Type 0) (g : GrammarView) (c : Certificate) where
  -- a fault of lines and entries is one of a certificate that names the owner
  pub fault_of : names c.head → (fault : CertificateFault) → IsFaultIn g c.lines c.entries fault → IsFaultOf names g c fault
  fault_of head (Syntax at) is = is
  fault_of head (WrongLine n) is = inr (head, is)
  fault_of head (Missing k) is = (head, is)
  fault_of head (NoMemory error) is = tt

  -- a fault of a certificate is one of its text
  fault_whole : IsTextOf text c → (fault : CertificateFault) → IsFaultOf names g c fault → IsFault text names g fault
  fault_whole of (Syntax at) is = absurd is
  fault_whole of (WrongLine n) is = record { certificate = c; text_is = of; is = is }
  fault_whole of (Missing k) is = record { certificate = c; text_is = of; is = is }
  fault_whole of (NoMemory error) is = tt

  pub text_fault : {X : Type 0} (result : Result X CertificateFault) → IsTextOf text c → IfErr result (IsFaultOf names g c) →
      IfErr result (IsFault text names g)
  text_fault (Ok x) of is = tt
  text_fault (Err fault) of is = fault_whole of fault is

  pub text_certificate : {X : Type 0} (result : Result X CertificateFault) → IsTextOf text c →
      IfOk result (λ x. IsCertificateOf names g c) →
      IfOk result (λ x. HasCertificate text names g)
  text_certificate (Ok x) of is = record { certificate = c; text_is = of; is = is }
  text_certificate (Err fault) of is = tt

module _ (g : GrammarView) (lines : List Line) (entries : List Entry) where
  -- the first wrong line
  pub line_fault : (place : ℕ) (fault : CertificateFault) → IsFirstWrongLine g lines place → IsLineFault place 0 fault →
      IsFaultIn g lines entries fault
  line_fault place (Syntax at) first is = is
  line_fault place (WrongLine n) first is = inl (place, first, (let e : n ≡ place + 3 = omega (arith, is) in e))
  line_fault place (Missing k) first is = absurd is
  line_fault place (NoMemory error) first is = tt

  -- the first wrong entry
  pub entry_fault : (place : ℕ) (fault : CertificateFault) → AreGoodLines g lines → IsFirstWrongEntry g lines entries place →
      IsLineFault place (length lines) fault → IsFaultIn g lines entries fault
  entry_fault place (Syntax at) good first is = is
  entry_fault place (WrongLine n) good first is = inr (good, (place, first, is))
  entry_fault place (Missing k) good first is = absurd is
  entry_fault place (NoMemory error) good first is = tt

  memory_fault : (fault : CertificateFault) → IsMemory fault → IsFaultIn g lines entries fault
  memory_fault (Syntax at) is = is
  memory_fault (WrongLine n) is = absurd is
  memory_fault (Missing k) is = absurd is
  memory_fault (NoMemory error) is = tt

  -- as they are told
  pub line_told : (refusal : LineRefusal) → IsLineRefusal g lines refusal → (fault : CertificateFault) → TellsLine refusal fault →
      IsFaultIn g lines entries fault
  line_told (l.Wrong place) first fault tells = line_fault place fault first tells
  line_told (l.NoMemory error) first fault tells = memory_fault fault tells

  pub entry_told : (refusal : EntryRefusal) → AreGoodLines g lines → IsEntryRefusal g lines entries refusal → (fault : CertificateFault) →
      TellsEntry (length lines) refusal fault → IsFaultIn g lines entries fault
  entry_told (e.Wrong place) good first fault tells = entry_fault place fault good first tells
  entry_told (e.NoMemory error) good first fault tells = memory_fault fault tells

-- what an answer that is known says
pub match_some : (A : Type 0) (B : ℕ → Type 0) (o : Option ℕ) (k : ℕ) → o ≡ Some k → MatchOption o A B → B k
match_some A B o k is h = subst (λ z. MatchOption z A B) is h

pub match_none : (A : Type 0) (B : ℕ → Type 0) (o : Option ℕ) → o ≡ None → MatchOption o A B → A
match_none A B o is h = subst (λ z. MatchOption z A B) is h
