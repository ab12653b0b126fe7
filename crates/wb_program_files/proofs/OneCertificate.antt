-- Two reports by the checks of a file with its certificate have one status, and one text where it isn't left open.
use Rattle.std.proofs.Common.{◌≡◌, ◌≢◌, ◌<◌, ◌≤◌, ◌⊎◌, inl, inr, ℕ, List, Option, Some, None, length, arith, sym, ◌∙◌, subst}
use Rattle.wb_certify_files.specs.declared.extension_refusal.FileRefusal.TheVariants as f
use Rattle.wb_certify_files.specs.OneRecheckAnswer.{Sort, at_place, for_host, is_missing, of_certification, of_specification, on_line}
use Rattle.wb_certify_files.specs.OneRecheckAnswer.{sort_of}
use Rattle.wb_certify_files.specs.OneRecheckAnswer.{out_of_memory, too_long}
use Rattle.wb_certify_files.specs.RecheckRefusals.{IsMemory}
use Rattle.wb_certify_files.specs.declared.contents_refusal.ContentsRefusal.{ContentsRefusal}
use Rattle.wb_certify_files.specs.declared.contents_refusal.ContentsRefusal.TheVariants as k
use Rattle.wb_report.specs.Lines.{report_of}
use Rattle.wb_report.specs.declared.certificate_reason.CertificateReason.{CertificateReason}
use Rattle.wb_report.specs.declared.certificate_reason.CertificateReason.TheVariants as q
use Rattle.wb_report.specs.declared.outcome.Outcome.TheVariants as o
use Rattle.wb_report.specs.declared.refusal.Refusal.TheVariants as r
use Rattle.wb_world.specs.Shelf.{Files}
use Rattle.wb_program_files.specs.CertificateChecks.{HasTooLongCertificate, IsPair, IsRefusedBy, RefusedCertificate, RefusedPair}
use Rattle.wb_program_files.specs.CertificateChecks.{ShowsKernel, WithCertificate}
use Rattle.wb_program_files.specs.Checks.{Report}
use Rattle.wb_program_files.specs.Files.{FileIs}
use Rattle.wb_program_files.specs.declared.status.Status.{Status}
use Rattle.wb_program_files.specs.declared.status.Status.TheVariants.{CertificateRefused, NotCertified, SpecRefused, WrongHost}
use Rattle.wb_program_files.proofs.OneCheck.{AreOne, on_file}
use Rattle.wb_program_files.proofs.WrittenWhole.{IsReported}

-- two reports: one status, and one text unless a refusal may show another example
abbrev pub AreNear : Status → Status → List ℕ → List ℕ → Type 0
AreNear s t bytes others = (s ≡ t) × (s ≢ SpecRefused → s ≢ NotCertified → ¬ ShowsKernel s bytes → bytes ≡ others)

pub are_near : (s t : Status) (bytes others : List ℕ) → AreOne s t bytes others → AreNear s t bytes others
are_near s t bytes others one = (one.0, λ written certified kernel. one.1)

-- contents are by a text one thing at most, and none where they are refused; and refusals are of one sort
pub record IsOneBy {X : Type 0} (Is : List ℕ → List ℕ → X → Type 0) (IsRefused : List ℕ → List ℕ → ContentsRefusal → Type 0)
    (contents text : List ℕ) : Type 0 where
  pub one : (x y : X) → Is contents text x → Is contents text y → x ≡ y
  pub excluded : (x : X) → Is contents text x → (refusal : ContentsRefusal) → IsRefused contents text refusal → IsMemory refusal
  pub sorts : (x y : ContentsRefusal) → IsRefused contents text x → IsRefused contents text y → ¬ IsMemory x → ¬ IsMemory y
      → sort_of x ≡ sort_of y

module _ (file certificate : List ℕ) where
  -- what is fixed of the status and the line of a refusal of this sort
  abbrev IsLine : Sort → Report
  IsLine of_specification status bytes = status ≡ SpecRefused
  IsLine (for_host name) status bytes = (status ≡ WrongHost) × (bytes ≡ report_of (o.WrongHost file name))
  IsLine of_certification status bytes = status ≡ NotCertified
  IsLine (at_place place) status bytes = RefusedCertificate certificate (q.Syntax place) status bytes
  IsLine (on_line number) status bytes = RefusedCertificate certificate (q.WrongLine number) status bytes
  IsLine is_missing status bytes = (kernel : ℕ) × RefusedCertificate certificate (q.Missing kernel) status bytes
  IsLine too_long status bytes = RefusedCertificate certificate q.TooLong status bytes
  IsLine out_of_memory status bytes = ⊥

  is_line : (x : ContentsRefusal) (status : Status) (bytes : List ℕ) → RefusedPair file certificate x status bytes
      → IsLine (sort_of x) status bytes
  is_line (k.File (f.Specification shown)) status bytes is = is.0
  is_line (k.File (f.WrongHost name)) status bytes is = is
  is_line (k.File (f.Certification shown)) status bytes is = is.0
  is_line (k.File (f.NoMemory error)) status bytes is = is
  is_line (k.Certificate (q.Syntax place)) status bytes is = is
  is_line (k.Certificate (q.WrongLine number)) status bytes is = is
  is_line (k.Certificate (q.Missing kernel)) status bytes is = (kernel, is)
  is_line (k.Certificate q.TooLong) status bytes is = is

  -- two lines of one sort
  near : (sort : Sort) (s t : Status) (bytes others : List ℕ) → IsLine sort s bytes → IsLine sort t others → AreNear s t bytes others
  near of_specification s t bytes others first second = (first ∙ sym second, λ written certified kernel. absurd (written first))
  near (for_host name) s t bytes others first second = (first.0 ∙ sym second.0, λ written certified kernel. first.1 ∙ sym second.1)
  near of_certification s t bytes others first second = (first ∙ sym second, λ written certified kernel. absurd (certified first))
  near (at_place place) s t bytes others first second = (first.0 ∙ sym second.0, λ written certified kernel. first.1 ∙ sym second.1)
  near (on_line number) s t bytes others first second = (first.0 ∙ sym second.0, λ written certified kernel. first.1 ∙ sym second.1)
  near is_missing s t bytes others (n, first) (m, second) = (
    first.0 ∙ sym second.0,
    λ written certified kernel.
        absurd (kernel (record { refused = first.0; file = certificate; kernel = n; line = first.1 })),
  )
  near too_long s t bytes others first second = (first.0 ∙ sym second.0, λ written certified kernel. first.1 ∙ sym second.1)
  near out_of_memory s t bytes others first second = absurd first

  -- what has a line isn't that memory ran out
  not_memory : (x : ContentsRefusal) (status : Status) (bytes : List ℕ) → RefusedPair file certificate x status bytes → ¬ IsMemory x
  not_memory (k.File (f.Specification shown)) status bytes is memory = memory
  not_memory (k.File (f.WrongHost name)) status bytes is memory = memory
  not_memory (k.File (f.Certification shown)) status bytes is memory = memory
  not_memory (k.File (f.NoMemory error)) status bytes is memory = is
  not_memory (k.Certificate reason) status bytes is memory = memory

  -- a refusal is written whole
  pair_reported : (x : ContentsRefusal) (status : Status) (bytes : List ℕ) → RefusedPair file certificate x status bytes
      → IsReported status
  pair_reported (k.File (f.Specification shown)) status bytes is = subst IsReported (sym is.0) tt
  pair_reported (k.File (f.WrongHost name)) status bytes is = subst IsReported (sym is.0) tt
  pair_reported (k.File (f.Certification shown)) status bytes is = subst IsReported (sym is.0) tt
  pair_reported (k.File (f.NoMemory error)) status bytes is = absurd is
  pair_reported (k.Certificate reason) status bytes is = subst IsReported (sym is.0) tt

  -- the checks, and a rest that is written whole
  pub by_pair : {X : Type 0} (known : Option Files) (Is : List ℕ → List ℕ → X → Type 0)
      (IsRefused : List ℕ → List ℕ → ContentsRefusal → Type 0) (rest : X → Report) (s : Status) (bytes : List ℕ)
      → ((x : X) → rest x s bytes → IsReported s) → WithCertificate known file certificate Is IsRefused rest s bytes → IsReported s
  by_pair known Is IsRefused rest s bytes more (inl long) = subst IsReported (sym long.line.0) tt
  by_pair known Is IsRefused rest s bytes more (inr (inl refused)) = pair_reported refused.refusal s bytes refused.line
  by_pair known Is IsRefused rest s bytes more (inr (inr (x, is, goes))) = more x goes

  -- facts of both files
  on_both : (files : Files) (P Q : List ℕ → List ℕ → Type 0) (R : Type 0)
      → ((contents text : List ℕ) → P contents text → Q contents text → R)
      → IsPair (Some files) file certificate P → IsPair (Some files) file certificate Q → R
  on_both files P Q R both p q =
      on_file (files file) (λ contents. FileIs (files certificate) (P contents)) (λ contents. FileIs (files certificate) (Q contents)) R
      (λ contents. on_file (files certificate) (P contents) (Q contents) R (both contents)) p.both q.both

  -- a certificate isn't both too long and short enough
  not_both : (files : Files) (s : Status) (bytes : List ℕ) (P : List ℕ → List ℕ → Type 0)
      → HasTooLongCertificate (Some files) file certificate s bytes → IsPair (Some files) file certificate P → ⊥
  not_both files s bytes P long is =
      on_file (files certificate) (λ text. 16777216 < length text) (λ text. length text ≤ 16777216) ⊥
      (λ text above below. omega (arith, above, below)) long.long is.short

  module _ {X : Type 0} (Is : List ℕ → List ℕ → X → Type 0) (IsRefused : List ℕ → List ℕ → ContentsRefusal → Type 0)
      (law : (contents text : List ℕ) → IsOneBy Is IsRefused contents text) (files : Files) (rest : X → Report) (s t : Status)
      (bytes others : List ℕ)
      (goes_on : (x : X) → rest x s bytes → rest x t others → AreNear s t bytes others) where
    -- what is certified by the certificate isn't refused
    excludes : (u : Status) (line : List ℕ) (x : X) → IsPair (Some files) file certificate (λ contents text. Is contents text x)
        → IsRefusedBy (Some files) file certificate IsRefused u line → ⊥
    excludes u line x is refused =
        not_memory refused.refusal u line refused.line
        (on_both files (λ contents text. Is contents text x) (λ contents text. IsRefused contents text refused.refusal)
        (IsMemory refused.refusal) (λ contents text p q. (law contents text).excluded x p refused.refusal q) is refused.cause)

    -- two refusals are of one sort
    refusals_near : IsRefusedBy (Some files) file certificate IsRefused s bytes
        → IsRefusedBy (Some files) file certificate IsRefused t others → AreNear s t bytes others
    refusals_near p q =
        let same : sort_of p.refusal ≡ sort_of q.refusal =
        on_both files (λ contents text. IsRefused contents text p.refusal) (λ contents text. IsRefused contents text q.refusal)
        (sort_of p.refusal ≡ sort_of q.refusal) (λ contents text x y. (law contents text).sorts p.refusal q.refusal x y
        (not_memory p.refusal s bytes p.line) (not_memory q.refusal t others q.line)) p.cause q.cause in
        near (sort_of q.refusal) s t bytes others
        (subst (λ (sort : Sort). IsLine sort s bytes) same (is_line p.refusal s bytes p.line)) (is_line q.refusal t others q.line)

    -- two reports by the checks
    pub one_pair_report : WithCertificate (Some files) file certificate Is IsRefused rest s bytes
        → WithCertificate (Some files) file certificate Is IsRefused rest t others → AreNear s t bytes others
    one_pair_report (inl p) (inl q) = (p.line.0 ∙ sym q.line.0, λ written certified kernel. p.line.1 ∙ sym q.line.1)
    one_pair_report (inl p) (inr (inl q)) = absurd (not_both files s bytes (λ contents text. IsRefused contents text q.refusal) p q.cause)
    one_pair_report (inl p) (inr (inr (y, q, more))) = absurd (not_both files s bytes (λ contents text. Is contents text y) p q)
    one_pair_report (inr (inl p)) (inl q) = absurd (not_both files t others (λ contents text. IsRefused contents text p.refusal) q p.cause)
    one_pair_report (inr (inl p)) (inr (inl q)) = refusals_near p q
    one_pair_report (inr (inl p)) (inr (inr (y, q, more))) = absurd (excludes s bytes y q p)
    one_pair_report (inr (inr (x, p, more))) (inl q) = absurd (not_both files t others (λ contents text. Is contents text x) q p)
    one_pair_report (inr (inr (x, p, more))) (inr (inl q)) = absurd (excludes t others x p q)
    one_pair_report (inr (inr (x, p, more))) (inr (inr (y, q, more'))) =
        let same : y ≡ x = on_both files (λ contents text. Is contents text y) (λ contents text. Is contents text x) (y ≡ x)
        (λ contents text is is'. (law contents text).one y x is is') q p in
        goes_on x more (subst (λ (z : X). rest z t others) same more')
