-- How far a certificate has been read.
use Rattle.std.specs.Prelude.{◌≡◌, ◌≢◌, ◌↔◌, ℕ, List, [], ◌∷◌, ◌++◌, All, codes}
use Rattle.wb_recheck_theory.specs.declared.line.Line.{Line}
use Rattle.wb_recheck_theory.specs.declared.entry.Entry.{Entry}
use Rattle.wb_recheck_text.specs.Text.{body_text, head_text, name_then, number_then}
use Rattle.wb_recheck_text.specs.Faults.{AreNames, CanGoOn, IsLineSmall, IsEntrySmall, IsSmall, IsStuck, IsTextOf}
use Rattle.wb_recheck_text.specs.declared.certificate.Certificate.{Certificate}
use Rattle.wb_recheck_text.specs.declared.certificate.Head.{Head}
use Rattle.wb_recheck_text.specs.declared.certificate.Head.TheVariants as h
use Rattle.wb_recheck_text.specs.declared.head_line.HeadWords.{HeadWords}
use Rattle.wb_recheck_text.specs.declared.head_line.HeadWords.TheVariants.{Host, Extension}
use Rattle.wb_recheck_text.specs.declared.read.Halt.{Halt}
use Rattle.wb_recheck_text.specs.declared.read.Halt.TheVariants.{At, NoMemory}

-- the head that these names make
abbrev pub head_of : HeadWords → Head
head_of (Host name) = h.Host name.now
head_of (Extension name host) = h.Extension name.now host.now

-- the two lines at the beginning
abbrev pub top_text : Head → List ℕ
top_text head = codes "certificate 1\n" ++ head_text head

-- the host of an extension, which ends the line
abbrev pub for_text : List ℕ → List ℕ
for_text host = codes "for " ++ name_then 10 host

-- two numbers, each with a space after it
abbrev pub pair_text : ℕ × ℕ → List ℕ
pair_text pair = number_then 32 pair.0 ++ number_then 32 pair.1

-- both numbers are below 2^64
abbrev pub IsPairSmall : ℕ × ℕ → Type 0
IsPairSmall pair = IsSmall pair.0 × IsSmall pair.1

-- with this head and after these lines and entries, the bytes are further lines and entries, no line after an entry, and all together are
-- the certificate
pub record GoesOn (head : Head) (lines : List Line) (entries : List Entry) (l : List ℕ) (c : Certificate) : Type 0 where
  pub names : AreNames head
  pub more_lines : List Line
  pub more_entries : List Entry
  pub in_order : entries ≢ [] → more_lines ≡ []
  pub lines_small : All IsLineSmall (lines ++ more_lines)
  pub entries_small : All IsEntrySmall (entries ++ more_entries)
  pub is : c ≡ record { head = head; lines = lines ++ more_lines; entries = entries ++ more_entries }
  pub text : l ≡ body_text more_lines more_entries

-- all but the rest of the text has been read, which are a head, lines and entries: whatever comes after them, the whole is a certificate's
-- text exactly where it goes on so
pub record HasRead (text rest : List ℕ) (head : Head) (lines : List Line) (entries : List Entry) : Type 0 where
  pub front : List ℕ
  pub split : text ≡ front ++ rest
  pub names : AreNames head
  pub lines_small : All IsLineSmall lines
  pub entries_small : All IsEntrySmall entries
  pub there : (l : List ℕ) (c : Certificate) → IsTextOf (front ++ l) c → GoesOn head lines entries l c
  pub back : (l : List ℕ) (c : Certificate) → GoesOn head lines entries l c → IsTextOf (front ++ l) c

-- the text is cut at its first fault
pub record IsFaultAt (text rest : List ℕ) : Type 0 where
  pub front : List ℕ
  pub split : text ≡ front ++ rest
  pub before : CanGoOn front
  pub stuck : IsStuck front rest

-- a reading that halts at a place is at the first fault
abbrev pub IsHalt : List ℕ → Halt → Type 0
IsHalt text (At rest) = IsFaultAt text rest.now
IsHalt text (NoMemory error) = Unit {0}
