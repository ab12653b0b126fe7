-- The report of `certificate`: it is written whole, and known files have one status, and one text where nothing is refused.
use Rattle.std.proofs.Common.{◌≡◌, ◌<◌, ◌≤◌, inl, inr, ℕ, List, [], ◌∷◌, Option, Some, length, arith, sym, ◌∙◌, subst}
use Rattle.wb_operations.specs.Operations.{OperationSignature, Operations}
use Rattle.wb_syntax_resolved.specs.declared.resolved.ResolvedParts.{ResolvedParts}
use Rattle.wb_world.specs.Shelf.{Files}
use Rattle.wb_program_words.specs.Asked as a
use Rattle.wb_program.specs.Commands.Certificate.{CertificateChecks, CertificateReport, IsCertificateOf}
use Rattle.wb_program_texts.specs.Below.{LawsBelow}
use Rattle.wb_program_texts.specs.status.Status.{Status}
use Rattle.wb_program_texts.proofs.OneCheck.{AreOne}
use Rattle.wb_program_texts.proofs.OneHostChecks.{AreAlike, are_alike}
use Rattle.wb_program_texts.proofs.OneSeveralReport.{one_several_report}
use Rattle.wb_program.proofs.ReportLaws.{HasLaws, when_alike}
use Rattle.wb_program_texts.proofs.WrittenWhole.{IsReported}
use Rattle.wb_program_texts.proofs.SeveralWritten.{several_reported}

-- a text isn't both too long to print and short enough
not_both : (text : List ℕ) → 16777216 < length text → length text ≤ 16777216 → ⊥
not_both text long short = omega (arith, long, short)

-- a host has one certificate, and so has an extension with it
one_certificate : LawsBelow → (host : ResolvedParts) (extensions : List ResolvedParts) (text other : List ℕ)
    → IsCertificateOf host extensions text → IsCertificateOf host extensions other → text ≡ other
one_certificate below host [] text other = below.host_certificates host text other
one_certificate below host (extension ∷ others) text other = below.extension_certificates extension text other

-- it has one report
one_checked : LawsBelow → (host : ResolvedParts) (extensions : List ResolvedParts) (s t : Status) (bytes others : List ℕ)
    → CertificateChecks host extensions s bytes → CertificateChecks host extensions t others → AreOne s t bytes others
one_checked below host extensions s t bytes others (inl (ends, x)) (inl (ends', y)) = (ends ∙ sym ends', x.line ∙ sym y.line)
one_checked below host extensions s t bytes others (inl (ends, x)) (inr (ends', y)) =
    absurd (not_both others (x.long others y.is) y.short)
one_checked below host extensions s t bytes others (inr (ends, x)) (inl (ends', y)) =
    absurd (not_both bytes (y.long bytes x.is) x.short)
one_checked below host extensions s t bytes others (inr (ends, x)) (inr (ends', y)) =
    (ends ∙ sym ends', one_certificate below host extensions bytes others x.is y.is)

-- two reports of `certificate`
one_certificate_report : LawsBelow → (operations : List OperationSignature) (files : Files) (host : List ℕ) (all : List (List ℕ))
    (s t : Status) (bytes others : List ℕ) → CertificateReport operations (Some files) host all s bytes
    → CertificateReport operations (Some files) host all t others → AreAlike s t bytes others
one_certificate_report below operations files host all s t bytes others =
    one_several_report below.extensions below.headers operations files host all CertificateChecks s t bytes others
    (λ r values names p q. are_alike s t bytes others (one_checked below r values s t bytes others p q))

-- the certificate
checked_reported : (host : ResolvedParts) (extensions : List ResolvedParts) (s : Status) (bytes : List ℕ)
    → CertificateChecks host extensions s bytes → IsReported s
checked_reported host extensions s bytes (inl (same, line)) = subst IsReported (sym same) tt
checked_reported host extensions s bytes (inr (same, text)) = subst IsReported (sym same) tt

-- a report of `certificate`
certificate_reported : (operations : List OperationSignature) (known : Option Files) (host : List ℕ) (all : List (List ℕ)) (s : Status)
    (bytes : List ℕ) → CertificateReport operations known host all s bytes → IsReported s
certificate_reported operations known host all s bytes =
    several_reported operations known all s bytes host CertificateChecks (λ r values. checked_reported r values s bytes)

-- so it has the laws of a report
pub certificate_laws : (operations : Operations) (host : List ℕ) (extensions : List (List ℕ))
    → HasLaws operations (a.certificate host extensions)
certificate_laws operations host extensions = record {
  whole = λ known. certificate_reported operations.signatures known host extensions;
  one = λ below files s t bytes others x y. when_alike (a.certificate host extensions) s t bytes others tt
      (one_certificate_report below operations.signatures files host extensions s t bytes others x y);
}
