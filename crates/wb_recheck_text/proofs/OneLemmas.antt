-- A text is that of one certificate at most.
use Rattle.std.proofs.Common.{◌≡◌, ℕ, List, [], ◌∷◌, ◌++◌, All, refl, sym, ◌∙◌, subst}
use Rattle.std.specs.List.{flat_map}
use Rattle.std.proofs.lemmas.List.Elements.{All-head, All-tail}
use Rattle.wb_lemmas.proofs.Parts.{append_assoc}
use Rattle.wb_recheck_theory.specs.declared.line.Line.{Line}
use Rattle.wb_recheck_theory.specs.declared.entry.Entry.{Entry}
use Rattle.wb_recheck_text.specs.Text.{body_text, certificate_text, entry_text, head_text, line_text}
use Rattle.wb_recheck_text.specs.Faults.{IsEntrySmall, IsLineSmall, IsTextOf}
use Rattle.wb_recheck_text.specs.Inner.Progress.{HasRead, top_text}
use Rattle.wb_recheck_text.specs.declared.certificate.Certificate.{Certificate}
use Rattle.wb_recheck_text.specs.declared.certificate.Head.{Head}
use Rattle.wb_recheck_text.proofs.ProgressLemmas.{certificate_parts, entry_has_read, head_has_read, line_has_read, read_only}
use Rattle.wb_recheck_text.proofs.StopLemmas.{append_none}

-- all lines are read, one after another
lines_read : (text : List ℕ) (head : Head) (entries : List Entry) (before more : List Line) → All IsLineSmall more
    → HasRead text (body_text more entries) head before [] → HasRead text (flat_map entry_text entries) head (before ++ more) []
lines_read text head entries before [] small read =
    subst (λ z. HasRead text (flat_map entry_text entries) head z []) (sym (append_none before)) read
lines_read text head entries before (x ∷ more) small read =
    subst (λ z. HasRead text (flat_map entry_text entries) head z []) (append_assoc before (x ∷ []) more)
    (lines_read text head entries (before ++ x ∷ []) more (All-tail IsLineSmall x more small)
    (line_has_read text (body_text (x ∷ more) entries) (body_text more entries) head before x
    (All-head IsLineSmall x more small, append_assoc (line_text x) (flat_map line_text more) (flat_map entry_text entries)) read))

-- and so are all entries
entries_read : (text : List ℕ) (head : Head) (lines : List Line) (before more : List Entry) → All IsEntrySmall more
    → HasRead text (flat_map entry_text more) head lines before → HasRead text [] head lines (before ++ more)
entries_read text head lines before [] small read = subst (HasRead text [] head lines) (sym (append_none before)) read
entries_read text head lines before (x ∷ more) small read =
    subst (HasRead text [] head lines) (append_assoc before (x ∷ []) more)
    (entries_read text head lines (before ++ x ∷ []) more (All-tail IsEntrySmall x more small)
    (entry_has_read text (flat_map entry_text (x ∷ more)) (flat_map entry_text more) head lines before x
    (All-head IsEntrySmall x more small, refl) read))

-- so the whole text is read, and what is read is its one certificate
pub one_certificate : (text : List ℕ) (c other : Certificate) → IsTextOf text c → IsTextOf text other → c ≡ other
one_certificate text c other is also = sym (read_only text c.head c.lines c.entries read other also) where
  begun : HasRead text (body_text c.lines c.entries) c.head [] []
  begun = head_has_read c.head is.writable.names text (body_text c.lines c.entries) (is.is ∙ certificate_parts c)

  read : HasRead text [] c.head c.lines c.entries
  read =
      entries_read text c.head c.lines [] c.entries is.writable.entries
      (lines_read text c.head c.entries [] c.lines is.writable.lines begun)
