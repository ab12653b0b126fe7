-- Words that ask for the reading of a text have a report, where files are certified.
use Rattle.std.proofs.Common.{◌≡◌, ◌<◌, ◌≤◌, ◌⊎◌, ℕ, List, Some, inl, inr, length, refl, sym, subst}
use Rattle.wb_compose_texts.specs.Names.{name_at, terminals_of}
use Rattle.wb_lemmas.proofs.NotNot.{bind, certain, follows}
use Rattle.wb_operations.specs.Operations.{OperationSignature, Operations}
use Rattle.wb_compose_texts.specs.declared.text_reading.TextReading.TheVariants as reading
use Rattle.wb_compose_texts.specs.UnionMarkers.{union_markers}
use Rattle.wb_compose_texts.specs.Markers.{IsMarkerAt}
use Rattle.wb_report.specs.Lines.{report_of}
use Rattle.wb_report.specs.declared.done.Done.TheVariants as done
use Rattle.wb_report.specs.declared.outcome.Outcome.TheVariants as o
use Rattle.wb_syntax_resolved.specs.declared.resolved.ResolvedParts.{ResolvedParts}
use Rattle.wb_world.specs.Shelf.{Files}
use Rattle.wb_program.specs.Excludes.{ExcludesExtensions, ExcludesHeaders}
use Rattle.wb_program.specs.Files.{FileIs}
use Rattle.wb_program.specs.status.Status.TheVariants.{Done, TextTooLong}
use Rattle.wb_program_words.specs.Asked as a
use Rattle.wb_program_words.specs.Words.{Asks}
use Rattle.wb_program.specs.Commands.Reading.{TextReadingReport}
use Rattle.wb_program_theory.specs.Certified.{AreCertified, ReadingChecks}
use Rattle.wb_program_theory.specs.Existence.{ComesToAnswer}
use Rattle.wb_program_theory.specs.Reported.{HaveReadingReport, HaveReport, IsAny, IsDone, IsReported}
use Rattle.wb_program_theory.proofs.CertifiedLemmas.{reports}
use Rattle.wb_program_theory.proofs.ExistenceLemmas.{comes_to_answer}

module _ (operations : List OperationSignature) (r : ResolvedParts) (values : List ResolvedParts) (text : List ℕ)
    (x : ComesToAnswer operations r values text) where
  -- a text with a marker has a reading
  marker_reported : (place marker : ℕ) → IsMarkerAt x.language (union_markers r values) text place marker
      → IsReported (TextReadingReport operations r values text) IsDone
  marker_reported place marker first = record {
    status = Done;
    bytes = report_of (o.Done (done.MarkerAt (name_at (terminals_of r values) marker) place));
    such = refl;
    is = record {
      reading = reading.MarkerAt place (name_at (terminals_of r values) marker);
      is = record {
        whole = x.whole;
        language = x.language;
        is_language = x.is_language;
        is = record { terminal = marker; first = first; named = refl };
      };
      shown = (refl, refl);
    };
  }

  -- and so has one without: it has some
  read_reported : ¬ ¬ IsReported (TextReadingReport operations r values text) IsDone
  read_reported never = never (record {
    status = Done;
    bytes = report_of (o.Done done.HostReading);
    such = refl;
    is = record {
      reading = reading.Host;
      is = record {
        whole = x.whole;
        language = x.language;
        is_language = x.is_language;
        is = λ place marker first. never (marker_reported place marker first);
      };
      shown = (refl, refl);
    };
  })

-- so words that ask for it have a report
pub have_reading_report : ExcludesExtensions → ExcludesHeaders → HaveReadingReport
have_reading_report excludes headers operations words files text host all r values contents asks are is_text =
    bind (comes_to_answer operations.signatures files host all r values are contents) (λ x.
    follows (read_reported operations.signatures r values contents x) (λ read. record {
      status = read.status;
      bytes = read.bytes;
      such = read.such;
      is = inr (record {
        asked = a.reading text host all;
        asks = asks;
        report = reports excludes headers operations.signatures files host all r values are
            (ReadingChecks operations.signatures (Some files) text) read.status read.bytes (inr (contents, is_text, read.is));
      });
    }))

-- by the length of the text
pub reading_reported : ExcludesExtensions → ExcludesHeaders → (operations : Operations) (words : List (List ℕ)) (files : Files)
    (text host : List ℕ) (all : List (List ℕ)) (r : ResolvedParts) (values : List ResolvedParts)
    → AreCertified operations.signatures files host all r values → Asks words (a.reading text host all) → (contents : List ℕ)
    → files text ≡ Some contents → (1048576 < length contents) ⊎ (length contents ≤ 1048576) → ¬ ¬ HaveReport operations words files IsAny
reading_reported excludes headers operations words files text host all r values are asks contents there (inl long) = certain (record {
  status = TextTooLong;
  bytes = report_of o.TextTooLong;
  such = tt;
  is = inr (record {
    asked = a.reading text host all;
    asks = asks;
    report = (reports excludes headers operations.signatures files host all r values are
        (ReadingChecks operations.signatures (Some files) text) TextTooLong (report_of o.TextTooLong)
        (inl (
          refl,
          record { long = subst (λ z. FileIs z (λ bytes. 1048576 < length bytes)) (sym there) long; line = refl },
        )));
  });
})
reading_reported excludes headers operations words files text host all r values are asks contents there (inr short) =
    follows (have_reading_report excludes headers operations words files text host all r values contents asks are
    (subst (λ z. FileIs z (λ bytes. bytes ≡ contents)) (sym there) refl, short)) (λ x.
    record { status = x.status; bytes = x.bytes; such = tt; is = x.is })
