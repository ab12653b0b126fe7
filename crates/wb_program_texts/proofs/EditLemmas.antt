-- What is made of a text and of a file of its edits is the report of their checks.
use Rattle.std.proofs.Common.{◌≡◌, ◌<◌, ◌≤◌, ◌⊎◌, inl, inr, ℕ, List, Option, Some, None, length, sym, refl, subst}
use Rattle.wb_report.specs.declared.edits_reason.EditsReason.TheVariants as u
use Rattle.wb_session_edits.specs.Edits.{IsList, IsListOf}
use Rattle.wb_session_edits.specs.declared.edit.Edit.{Edit}
use Rattle.wb_text_parts.specs.Faults.{IsFirstFault}
use Rattle.wb_world.specs.Shelf.{Files}
use Rattle.wb_program_files.specs.Checks.{Report, Check}
use Rattle.wb_program_texts.specs.Commands.Edit.{IsListFile, IsNoList, refused_line}
use Rattle.wb_program_files.specs.Files.{KnownFile}
use Rattle.wb_program_files.specs.Contents.{ContentsAre, KnownIs}
use Rattle.wb_program_texts.specs.Inner.EditFiles.{ReadList, ShownList}
use Rattle.wb_program_files.specs.Stopped.{Outside, Stopped}
use Rattle.wb_program_files.specs.Texts.{IsText}
use Rattle.wb_program_files.specs.declared.files.Contents.{Contents}
use Rattle.wb_program_files.specs.declared.files.Contents.TheVariants.{Whole, TooLong}
use Rattle.wb_program_files.specs.declared.files.ReadFailure.{ReadFailure}
use Rattle.wb_program_files.specs.declared.status.Status.{Status}
use Rattle.wb_program_files.specs.declared.status.Status.TheVariants.{EditRefused}
use Rattle.wb_program_files.proofs.FileLemmas.{known_is}
use Rattle.wb_program_files.proofs.StopLemmas.{weaker_stop}

module _ (known : Option Files) (file : List ℕ) (rest : List Edit → Report) (status : Status) (bytes : List ℕ) where
  -- the report of its bytes is that of the file
  shown_checks : (contents : List ℕ) → ((P : List ℕ → Type 0) → P contents → KnownFile known file P) → length contents ≤ 1048576 →
      ShownList file rest contents status bytes → Check EditRefused (IsNoList known file) (IsListFile known file) rest status bytes
  shown_checks contents there short (inl (at, fault, is)) =
      inl (is.0, inr (at, there (λ text. (length text ≤ 1048576) × IsFirstFault IsList text at) (short, fault), is.1))
  shown_checks contents there short (inr (edits, list, report)) =
      inr (edits, there (λ text. (length text ≤ 1048576) × IsListOf text edits) (short, list), report)

  -- the report of what was read is that of the file
  pub list_checks : (contents : Contents) → ContentsAre 1048576 known file contents → ReadList file rest contents status bytes →
      Check EditRefused (IsNoList known file) (IsListFile known file) rest status bytes
  list_checks (Whole text) are report =
      shown_checks text.items (λ P holds. known_is known file text.items P are.0 holds) are.1 report
  list_checks TooLong are (ends, line) = inl (ends, inl (are, line))

-- where the later part comes to the text or its edits, so does the whole, since files stay
pub comes_since : (known between : Option Files) (file list : List ℕ) → between ≡ known → (P Q : List ℕ → Type 0) →
    ((name : List ℕ) → P name → Q name) → P file ⊎ (((text : List ℕ) × IsText between file text) × P list) →
    Q file ⊎ (((text : List ℕ) × IsText known file text) × Q list)
comes_since known between file list same P Q weaker (inl meets) = inl (weaker file meets)
comes_since known between file list same P Q weaker (inr ((text, is), meets)) =
    inr ((text, subst (λ (told : Option Files). IsText told file text) same is), weaker list meets)

-- what was read whole is a text
pub text_read : (known : Option Files) (file text : List ℕ) → KnownIs known file text → length text ≤ 1048576 → IsText known file text
text_read known file text is short = (known_is known file text (λ contents. contents ≡ text) is refl, short)

-- where the text stops the run, it comes to the text or its edits
pub stops_at_text : (before now : Outside) (file list : List ℕ) (failure : ReadFailure) → Stopped before now (λ P. P file) failure →
    Stopped before now (λ P. P file ⊎ (((text : List ℕ) × IsText before.files file text) × P list)) failure
stops_at_text before now file list failure =
    weaker_stop before now (λ P. P file) (λ P. P file ⊎ (((text : List ℕ) × IsText before.files file text) × P list)) failure
    (λ P meets. inl meets)
