-- What is read of a file and of its certificate, and what is made of both.
use Rattle.std.specs.Prelude.{◌≡◌, ◌≤◌, ◌⊎◌, ℕ, Option, List, Result, Ok, Err, IfOk, length}
use Rattle.wb_certify_files.specs.Hosts.{CertifiedView}
use Rattle.wb_operations.specs.Operations.{OperationSignature}
use Rattle.wb_certify_files.specs.RecheckedHosts.{IsRecheckedHost, IsRefusedHost}
use Rattle.wb_certify_files.specs.declared.contents_refusal.ContentsRefusal.{ContentsRefusal}
use Rattle.wb_report.specs.declared.certificate_reason.CertificateReason.TheVariants as q
use Rattle.wb_world.specs.Shelf.{Files}
use Rattle.wb_program_files.specs.CertificateChecks.{HasTooLongCertificate, IsPair, IsRefusedBy, RefusedCertificate, RefusedPair}
use Rattle.wb_program_files.specs.Checks.{Report}
use Rattle.wb_program_files.specs.Contents.{ContentsAre, KnownIs, ReadIs}
use Rattle.wb_program_files.specs.declared.answer.Answer.{Answer}
use Rattle.wb_program_files.specs.declared.files.Contents.{Contents}
use Rattle.wb_program_files.specs.declared.files.Contents.TheVariants.{Whole, TooLong}
use Rattle.wb_program_files.specs.declared.pairs.Pair.{Pair}
use Rattle.wb_program_files.specs.declared.status.Status.{Status}

-- what was read of a file and of its certificate: both, where the certificate isn't too long, and else the answer for that
abbrev pub IsPaired : (contents text : Contents) → (certificate : List ℕ) → Result Pair Answer → Type 0
IsPaired contents (Whole text) certificate made = made ≡ Ok (record { contents = contents; text = text })
IsPaired contents TooLong certificate (Ok pair) = ⊥
IsPaired contents TooLong certificate (Err answer) = RefusedCertificate certificate q.TooLong answer.status answer.report.items

-- this is what the file has, up to its limit, and what the certificate has, which isn't too long
pub record ArePair (known : Option Files) (file certificate : List ℕ) (pair : Pair) : Type 0 where
  pub contents : ContentsAre 1048576 known file pair.contents
  pub text : KnownIs known certificate pair.text.items
  pub short : length pair.text.items ≤ 16777216

-- what is read of a file and of its certificate, or how the run ends where that is too long
abbrev pub IsReadPair : Option Files → (file certificate : List ℕ) → Result Pair Answer → Type 0
IsReadPair known file certificate (Ok pair) = ArePair known file certificate pair
IsReadPair known file certificate (Err answer) = HasTooLongCertificate known file certificate answer.status answer.report.items

-- the run ends since the contents that were read aren't certified by the text
pub record RefusesRead (IsRefused : List ℕ → List ℕ → ContentsRefusal → Type 0) (pair : Pair) (file certificate : List ℕ) (status : Status)
    (bytes : List ℕ) : Type 0 where
  pub refusal : ContentsRefusal
  pub cause : ReadIs pair.contents (λ contents. IsRefused contents pair.text.items refusal)
  pub line : RefusedPair file certificate refusal status bytes

module _ {X : Type 0} (Is : List ℕ → List ℕ → X → Type 0) (IsRefused : List ℕ → List ℕ → ContentsRefusal → Type 0) where
  -- what is made of what was read: the contents are certified by the text as this, or the run ends
  abbrev pub IsMade : Pair → (file certificate : List ℕ) → Result X Answer → Type 0
  IsMade pair file certificate (Ok x) = ReadIs pair.contents (λ contents. Is contents pair.text.items x)
  IsMade pair file certificate (Err answer) = RefusesRead IsRefused pair file certificate answer.status answer.report.items

  -- what is made of the files
  abbrev pub IsFound : Option Files → (file certificate : List ℕ) → Result X Answer → Type 0
  IsFound known file certificate (Ok x) = IsPair known file certificate (λ contents text. Is contents text x)
  IsFound known file certificate (Err answer) =
      HasTooLongCertificate known file certificate answer.status answer.report.items
      ⊎ IsRefusedBy known file certificate IsRefused answer.status answer.report.items

module _ (operations : List OperationSignature) where
  -- the contents are a host of this value that is certified by the text
  abbrev pub IsHostBy : List ℕ → List ℕ → CertifiedView → Type 0
  IsHostBy contents text host = IsRecheckedHost operations contents text host.resolved

  -- the host that is made of what was read
  pub record IsMadeHost (pair : Pair) (file certificate : List ℕ) (made : Result CertifiedView Answer) : Type 0 where
    pub is : IsMade IsHostBy (IsRefusedHost operations) pair file certificate made
    pub signatures : IfOk made (λ host. host.operations ≡ operations)

  -- the host that is made of the files
  pub record IsFoundHost (known : Option Files) (file certificate : List ℕ) (made : Result CertifiedView Answer) : Type 0 where
    pub is : IsFound IsHostBy (IsRefusedHost operations) known file certificate made
    pub signatures : IfOk made (λ host. host.operations ≡ operations)
