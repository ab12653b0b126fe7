-- Words that ask for `edit` have a report, where files are certified.
use Rattle.std.proofs.Common.{◌≡◌, ◌<◌, ◌≤◌, ◌⊎◌, ◌++◌, ◌∷◌, ◌∙◌, [], ℕ, List, Some, inl, inr, length, append_assoc, append-nil, refl, sym}
use Rattle.std.proofs.Common.{subst}
use Rattle.std.proofs.lemmas.Bool.{cases_lt}
use Rattle.wb_compose_texts.specs.declared.edits_answer.EditsAnswer.{EditsAnswer}
use Rattle.wb_compose_texts.specs.declared.edits_answer.EditsAnswer.TheVariants as edits
use Rattle.wb_compose_texts.specs.Names.{terminals_of}
use Rattle.wb_compose_texts.specs.Signatures.{signatures_of}
use Rattle.wb_lemmas.proofs.NotNot.{bind, certain, decide, follows}
use Rattle.wb_operations.specs.Operations.{OperationSignature, Operations}
use Rattle.wb_report.specs.Lines.{report_of}
use Rattle.wb_report.specs.declared.done.Done.TheVariants as done
use Rattle.wb_report.specs.declared.edits_reason.EditsReason.TheVariants as u
use Rattle.wb_report.specs.declared.outcome.Outcome.TheVariants as o
use Rattle.wb_session_edits.specs.Edits.{IsList, IsListOf}
use Rattle.wb_session_edits.specs.declared.edit.Edit.{Edit}
use Rattle.wb_syntax_resolved.specs.declared.resolved.ResolvedParts.{ResolvedParts}
use Rattle.wb_text_parts.specs.Faults.{CanGoOn, IsFirstFault}
use Rattle.wb_world.specs.Shelf.{Files}
use Rattle.wb_program.specs.Commands.Edit.{EditsReport, ShownEdits, refused_line}
use Rattle.wb_program.specs.Files.{FileIs}
use Rattle.wb_program.specs.Excludes.{ExcludesExtensions, ExcludesHeaders}
use Rattle.wb_program.specs.status.Status.TheVariants.{Done, EditRefused, TextTooLong, TooLongToPrint}
use Rattle.wb_program_words.specs.Asked as a
use Rattle.wb_program_words.specs.Words.{Asks}
use Rattle.wb_program_theory.specs.Certified.{AreCertified, EditChecks}
use Rattle.wb_program_theory.specs.Existence.{ComesToAnswer}
use Rattle.wb_program_theory.specs.Reported.{HaveEditReport, HaveReport, IsAny, IsEditStatus, IsReported, IsThere}
use Rattle.wb_program_theory.proofs.CertifiedLemmas.{reports}
use Rattle.wb_program_theory.proofs.EditsExist.{some_edits_answer}
use Rattle.wb_program_theory.proofs.ExistenceLemmas.{comes_to_answer}

-- bytes are a list of edits, or have a first fault
found_from : (text front rest : List ℕ) → text ≡ front ++ rest → CanGoOn IsList front →
    ¬ ¬ (IsList text ⊎ ((at : ℕ) × IsFirstFault IsList text at))
found_from text front [] split before =
    follows (decide (IsList front)) (λ d. elim d [
      | inl is ↦ inl (subst IsList (sym (split ∙ append-nil front)) is)
      | inr never ↦
          inr (length front, record { front = front; rest = []; split = split; place = refl; before = before; stuck = never })
    ])
found_from text front (b ∷ after) split before =
    bind (decide (CanGoOn IsList (front ++ b ∷ []))) (λ d. elim d [
      | inl more ↦ found_from text (front ++ b ∷ []) after (split ∙ sym (append_assoc front (b ∷ []) after)) more
      | inr never ↦ certain (inr (
        length front,
        record {
          front = front;
          rest = b ∷ after;
          split = split;
          place = refl;
          before = before;
          stuck = never;
        },
      ))
    ])

found : (text : List ℕ) → ¬ ¬ (IsList text ⊎ ((at : ℕ) × IsFirstFault IsList text at))
found text = found_from text [] text refl ([], ([], IsListOf.none refl refl))

module _ (operations : List OperationSignature) (r : ResolvedParts) (values : List ResolvedParts) (files : Files) (list text : List ℕ)
    (x : ComesToAnswer operations r values text) where
  abbrev Found : Type 0
  Found = IsReported (EditsReport operations (Some files) list r values text) IsEditStatus

  -- what becomes of the text is shown
  shown : (answer : EditsAnswer) → IsReported (ShownEdits list answer) IsEditStatus
  shown (edits.Lines lines) =
      record { status = Done; bytes = report_of (o.Done (done.Edited lines)); such = tt; is = (refl, refl) }
  shown edits.TooLong = record { status = TooLongToPrint; bytes = report_of o.TooLongToPrint; such = tt; is = (refl, refl) }
  shown (edits.OutOfRange number) =
      record { status = EditRefused; bytes = refused_line list (u.OutOfRange number); such = tt; is = (refl, refl) }
  shown (edits.TextTooLong number) =
      record { status = EditRefused; bytes = refused_line list (u.TextTooLong number); such = tt; is = (refl, refl) }

  module _ (bytes : List ℕ) (there : files list ≡ Some bytes) where
    -- what holds of the bytes holds of the file
    of_file : (P : List ℕ → Type 0) → P bytes → FileIs (files list) P
    of_file P holds = subst (λ z. FileIs z P) (sym there) holds

    -- a list of edits has the report of what becomes of the text
    of_list : length bytes ≤ 1048576 → (all : List Edit) → IsListOf bytes all → ¬ ¬ Found
    of_list short all is =
        follows (some_edits_answer (terminals_of r values) (signatures_of r values) x.language x.is_language.language text all)
        (λ (answer, made). let answered = shown answer in record {
          status = answered.status;
          bytes = answered.bytes;
          such = answered.such;
          is = inr (
            all,
            of_file (λ contents. (length contents ≤ 1048576) × IsListOf contents all) (short, is),
            record {
              answer = answer;
              is = record { whole = x.whole; language = x.language; is_language = x.is_language; is = made };
              shown = answered.is;
            },
          );
        })

    -- and other bytes have that of their first fault
    of_fault : length bytes ≤ 1048576 → (at : ℕ) → IsFirstFault IsList bytes at → Found
    of_fault short at is = record {
      status = EditRefused;
      bytes = refused_line list (u.Syntax at);
      such = tt;
      is = inl (refl, inr (at, of_file (λ contents. (length contents ≤ 1048576) × IsFirstFault IsList contents at) (short, is), refl));
    }

    by_length : (1048576 < length bytes) ⊎ (length bytes ≤ 1048576) → ¬ ¬ Found
    by_length (inl over) = certain (record {
      status = EditRefused;
      bytes = refused_line list u.TooLong;
      such = tt;
      is = inl (refl, inl (of_file (λ contents. 1048576 < length contents) over, refl));
    })
    by_length (inr short) =
        bind (found bytes) (λ f. elim f [ inl (all, is) ↦ of_list short all is | inr (at, is) ↦ certain (of_fault short at is) ])

    -- so the file of edits has a report
    edits_reported : ¬ ¬ Found
    edits_reported = by_length (cases_lt 1048576 (length bytes))

-- so words that ask for it have one
pub have_edit_report : ExcludesExtensions → ExcludesHeaders → HaveEditReport
have_edit_report excludes headers operations words files text list host all r values contents asks are is_text (bytes, there) =
    bind (comes_to_answer operations.signatures files host all r values are contents) (λ x.
    follows (edits_reported operations.signatures r values files list contents x bytes there) (λ read. record {
      status = read.status;
      bytes = read.bytes;
      such = read.such;
      is = inr (record {
        asked = a.edit text list host all;
        asks = asks;
        report = reports excludes headers operations.signatures files host all r values are
            (EditChecks operations.signatures (Some files) text list) read.status read.bytes (inr (contents, is_text, read.is));
      });
    }))

-- by the length of the text
pub edit_reported : ExcludesExtensions → ExcludesHeaders → (operations : Operations) (words : List (List ℕ)) (files : Files)
    (text list host : List ℕ) (all : List (List ℕ)) (r : ResolvedParts) (values : List ResolvedParts)
    → AreCertified operations.signatures files host all r values → Asks words (a.edit text list host all) → (contents : List ℕ)
    → files text ≡ Some contents → IsThere files list → (1048576 < length contents) ⊎ (length contents ≤ 1048576)
    → ¬ ¬ HaveReport operations words files IsAny
edit_reported excludes headers operations words files text list host all r values are asks contents there edits_there (inl long) =
    certain (record {
      status = TextTooLong;
      bytes = report_of o.TextTooLong;
      such = tt;
      is = inr (record {
        asked = a.edit text list host all;
        asks = asks;
        report = (reports excludes headers operations.signatures files host all r values are
            (EditChecks operations.signatures (Some files) text list) TextTooLong (report_of o.TextTooLong)
            (inl (
              refl,
              record { long = subst (λ z. FileIs z (λ bytes. 1048576 < length bytes)) (sym there) long; line = refl },
            )));
      });
    })
edit_reported excludes headers operations words files text list host all r values are asks contents there edits_there (inr short) =
    follows (have_edit_report excludes headers operations words files text list host all r values contents asks are
    (subst (λ z. FileIs z (λ bytes. bytes ≡ contents)) (sym there) refl, short) edits_there) (λ x.
    record { status = x.status; bytes = x.bytes; such = tt; is = x.is })
