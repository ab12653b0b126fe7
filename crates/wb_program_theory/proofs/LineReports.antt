-- Words that ask for `check`, `certify`, `compose`, `certificate` or `recheck` have a report, where files are certified.
use Rattle.std.proofs.Common.{◌<◌, ◌≤◌, ◌⊎◌, ◌++◌, ◌∷◌, [], ℕ, List, Some, None, inl, inr, length, refl}
use Rattle.std.proofs.lemmas.Bool.{cases_lt}
use Rattle.wb_certify_files.specs.Extensions.{IsOneExtension}
use Rattle.wb_certify_files.specs.ExtensionContents.{IsExtensionText}
use Rattle.wb_lemmas.proofs.NotNot.{follows}
use Rattle.wb_operations.specs.Operations.{OperationSignature}
use Rattle.wb_report.specs.Lines.{report_of}
use Rattle.wb_report.specs.declared.done.Done.TheVariants as done
use Rattle.wb_report.specs.declared.outcome.Outcome.TheVariants as o
use Rattle.wb_syntax_resolved.specs.declared.resolved.ResolvedParts.{ResolvedParts}
use Rattle.wb_world.specs.Shelf.{Files}
use Rattle.wb_program.specs.Excludes.{ExcludesExtensions, ExcludesHeaders}
use Rattle.wb_program.specs.SeveralChecks.{AreEach, IsNextText}
use Rattle.wb_program.specs.status.Status.TheVariants.{Done, TooLongToPrint}
use Rattle.wb_program_words.specs.Asked as a
use Rattle.wb_program.specs.Commands.Certificate.{CertificateChecks, IsCertificateOf}
use Rattle.wb_program.specs.Commands.Certify.{ExtensionsReport}
use Rattle.wb_program_theory.specs.Certified.{ComposeChecks}
use Rattle.wb_program_theory.specs.Reported.{HaveCertificateReport, HaveCertifyReport, HaveCheckReport, HaveComposeReport, IsDone}
use Rattle.wb_program_theory.specs.Reported.{HaveRecheckReport, HaveRecheckedExtensionReport, IsPrintStatus, IsReported}
use Rattle.wb_program_theory.proofs.CertifiedLemmas.{reports}
use Rattle.wb_program_theory.proofs.ExistenceLemmas.{from_file, has_withdrawn}
use Rattle.wb_program_theory.proofs.FileLemmas.{file_is}

-- a certified host
pub have_check_report : HaveCheckReport
have_check_report operations words files host r asks is_host = record {
  status = Done;
  bytes = report_of (o.Done (done.Certified r.host []));
  such = refl;
  is = inr (record { asked = a.check host; asks = asks; report = inr (inr (r, is_host, (refl, refl))) });
}

-- certified extensions, after some of these names
certified_each : (operations : List OperationSignature) (files : Files) (r : ResolvedParts) (extensions : List (List ℕ))
    (before values : List ResolvedParts) (names : List (List ℕ)) → AreEach operations (Some files) r extensions before values
    → IsReported (ExtensionsReport operations (Some files) r extensions names) IsDone
certified_each operations files r [] before values names is =
    record { status = Done; bytes = report_of (o.Done (done.Certified r.host names)); such = refl; is = (refl, refl) }
certified_each operations files r (file ∷ rest) before values names (value, next, more) =
    let (name, named) : (name : List ℕ) × IsOneExtension value name =
    from_file (files file) (λ contents. IsNextText operations r before contents value) ((name : List ℕ) × IsOneExtension value name)
    (λ contents p. (p.text.certified.name, p.text.certified.one)) next in
    let later = certified_each operations files r rest (before ++ value ∷ []) values (names ++ name ∷ []) more in
    record {
      status = later.status;
      bytes = later.bytes;
      such = later.such;
      is = inr (inr (inr (
        name,
        record {
          value = value;
          contents = file_is (files file) (λ contents. IsNextText operations r before contents value)
              (λ contents. IsExtensionText r operations contents value) (λ contents p. p.text) next;
          named = named;
        },
        later.is,
      )));
    }

pub have_certify_report : HaveCertifyReport
have_certify_report operations words files host all r values asks are =
    let each = certified_each operations.signatures files r all [] values [] are.each in
    record {
      status = each.status;
      bytes = each.bytes;
      such = each.such;
      is = inr (record {
        asked = a.certify host all;
        asks = asks;
        report = inr (are.few, inr (inr (r, are.is_host, each.is)));
      });
    }

-- what is composed
pub have_compose_report : ExcludesExtensions → ExcludesHeaders → HaveComposeReport
have_compose_report excludes headers operations words files host all r values asks are =
    follows (has_withdrawn operations.signatures files host all r values are) (λ (names, withdrawn).
    let line = report_of (o.Done (done.Composed r.host (length values) names)) in record {
      status = Done;
      bytes = line;
      such = refl;
      is = inr (record {
        asked = a.compose host all;
        asks = asks;
        report = reports excludes headers operations.signatures files host all r values are
            (ComposeChecks operations.signatures) Done line
            (refl, record { names = names; withdrawn = withdrawn; lines = refl });
      });
    })

-- what is reported of a certificate: it is short enough, or each is too long
checked : (r : ResolvedParts) (values : List ResolvedParts) → ¬ ¬ IsReported (CertificateChecks r values) IsPrintStatus
checked r values none =
    let long : (text : List ℕ) → IsCertificateOf r values text → 16777216 < length text =
    λ text is. long_unless text is (cases_lt 16777216 (length text)) in
    none (record {
      status = TooLongToPrint;
      bytes = report_of o.TooLongToPrint;
      such = tt;
      is = inl (refl, record { long = long; line = refl });
    })
  where
    long_unless : (text : List ℕ) → IsCertificateOf r values text → (16777216 < length text) ⊎ (length text ≤ 16777216)
        → 16777216 < length text
    long_unless text is (inl long) = long
    long_unless text is (inr short) =
        absurd (none (record { status = Done; bytes = text; such = tt; is = inr (refl, record { is = is; short = short }) }))

pub have_certificate_report : ExcludesExtensions → ExcludesHeaders → HaveCertificateReport
have_certificate_report excludes headers operations words files host all r values asks are =
    follows (checked r values) (λ x. record {
      status = x.status;
      bytes = x.bytes;
      such = x.such;
      is = inr (record {
        asked = a.certificate host all;
        asks = asks;
        report = reports excludes headers operations.signatures files host all r values are CertificateChecks x.status x.bytes x.is;
      });
    })

-- `recheck` of a host
pub have_recheck_report : HaveRecheckReport
have_recheck_report operations words files host certificate r asks is = record {
  status = Done;
  bytes = report_of (o.Done (done.Rechecked r.host None));
  such = refl;
  is = inr (record { asked = a.recheck host certificate []; asks = asks; report = inr (inr (r, is, (refl, refl))) });
}

-- and of an extension with it
pub have_rechecked_extension_report : HaveRecheckedExtensionReport
have_rechecked_extension_report operations words files host certificate extension other r name asks is beside = record {
  status = Done;
  bytes = report_of (o.Done (done.Rechecked r.host (Some name)));
  such = refl;
  is = inr (record {
    asked = a.recheck host certificate (extension ∷ other ∷ []);
    asks = asks;
    report = inr (inr (r, is, inr (inr (name, beside, (refl, refl)))));
  });
}
