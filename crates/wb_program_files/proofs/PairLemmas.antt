-- What is made of what was read of a file and of its certificate is their report.
use Rattle.std.proofs.Common.{◌≡◌, ◌≤◌, ◌⊎◌, inl, inr, ℕ, List, Option, Some, Result, Ok, Err, IfOk, IfErr, length, subst, sym, refl}
use Rattle.std.specs.Result.{IsErrAnd}
use Rattle.wb_certify_files.specs.Hosts.{CertifiedView}
use Rattle.wb_operations.specs.Operations.{OperationSignature}
use Rattle.wb_certify_files.specs.RecheckedHosts.{IsRefusedHost}
use Rattle.wb_certify_files.specs.declared.contents_refusal.ContentsRefusal.{ContentsRefusal}
use Rattle.wb_world.specs.Shelf.{Files}
use Rattle.wb_program_files.specs.CertificateChecks.{HasTooLongCertificate, IsPair, IsRefusedBy, RefusedPair, WithCertificate}
use Rattle.wb_program_files.specs.Checks.{Report}
use Rattle.wb_program_files.specs.Files.{KnownFile}
use Rattle.wb_program_files.specs.Contents.{ContentsAre, ReadIs}
use Rattle.wb_program_files.specs.Inner.Pairs.{ArePair, IsFound, IsFoundHost, IsHostBy, IsMade, IsMadeHost, IsPaired, IsReadPair}
use Rattle.wb_program_files.specs.declared.answer.Answer.{Answer}
use Rattle.wb_program_files.specs.declared.files.Contents.{Contents}
use Rattle.wb_program_files.specs.declared.files.Contents.TheVariants.{Whole, TooLong}
use Rattle.wb_program_files.specs.declared.pairs.Pair.{Pair}
use Rattle.wb_program_files.specs.declared.status.Status.{Status}
use Rattle.wb_program_files.proofs.FileLemmas.{known_is, read_is}

-- a file that was read is there
is_there : (known : Option Files) (file : List ℕ) (contents : Contents) → ContentsAre 1048576 known file contents
    → KnownFile known file (λ text. Unit {0})
is_there known file (Whole bytes) are = read_is known file (Whole bytes) (λ text. Unit {0}) are tt
is_there known file TooLong are = read_is known file TooLong (λ text. Unit {0}) are (λ text long. tt)

-- a file and its certificate that were read
pub paired_read : (known : Option Files) (file certificate : List ℕ) (contents text : Contents) (made : Result Pair Answer)
    → ContentsAre 1048576 known file contents → ContentsAre 16777216 known certificate text → IsPaired contents text certificate made
    → IsReadPair known file certificate made
paired_read known file certificate contents (Whole text) made are short same =
    subst (IsReadPair known file certificate) (sym same) (record { contents = are; text = short.0; short = short.1 })
paired_read known file certificate contents TooLong (Ok pair) are long is = absurd is
paired_read known file certificate contents TooLong (Err answer) are long line =
    record { there = is_there known file contents are; long = long; line = line }

-- what was read meets what follows from what it meets
weaker_read : (contents : Contents) (P Q : List ℕ → Type 0) → ((text : List ℕ) → P text → Q text) → ReadIs contents P → ReadIs contents Q
weaker_read (Whole bytes) P Q weaker is = weaker bytes.items is
weaker_read TooLong P Q weaker is = λ text long. weaker text (is text long)

module _ (known : Option Files) (file certificate : List ℕ) (pair : Pair) (are : ArePair known file certificate pair) where
  -- what holds of what was read holds of the files
  in_pair : (Holds : List ℕ → List ℕ → Type 0) → ReadIs pair.contents (λ contents. Holds contents pair.text.items)
      → IsPair known file certificate Holds
  in_pair Holds is = record {
    short = known_is known certificate pair.text.items (λ text. length text ≤ 16777216) are.text are.short;
    both = read_is known file pair.contents (λ contents. KnownFile known certificate (Holds contents)) are.contents
        (weaker_read pair.contents (λ contents. Holds contents pair.text.items) (λ contents. KnownFile known certificate (Holds contents))
        (λ contents. known_is known certificate pair.text.items (Holds contents) are.text) is);
  }

  -- so what is made of what was read is made of the files
  pub found_made : {X : Type 0} (Is : List ℕ → List ℕ → X → Type 0) (IsRefused : List ℕ → List ℕ → ContentsRefusal → Type 0)
      (made : Result X Answer) → IsMade Is IsRefused pair file certificate made → IsFound Is IsRefused known file certificate made
  found_made Is IsRefused (Ok x) is = in_pair (λ contents text. Is contents text x) is
  found_made Is IsRefused (Err answer) is = inr (record {
    refusal = is.refusal;
    cause = in_pair (λ contents text. IsRefused contents text is.refusal) is.cause;
    line = is.line;
  })

  pub found_host : (operations : List OperationSignature) (made : Result CertifiedView Answer)
      → IsMadeHost operations pair file certificate made → IsFoundHost operations known file certificate made
  found_host operations made is = record {
    is = found_made (IsHostBy operations) (IsRefusedHost operations) made is.is;
    signatures = is.signatures;
  }

-- what is found, or the answer where it isn't found
pub made_of : {X : Type 0} (Is : List ℕ → List ℕ → X → Type 0) (IsRefused : List ℕ → List ℕ → ContentsRefusal → Type 0) (pair : Pair)
    (file certificate : List ℕ) (found : Result X ContentsRefusal) (made : Result X Answer) → IfOk made (λ x. found ≡ Ok x)
    → IfErr made (λ answer. IsErrAnd found (λ refusal. RefusedPair file certificate refusal answer.status answer.report.items))
    → IfOk found (λ x. ReadIs pair.contents (λ contents. Is contents pair.text.items x))
    → IfErr found (λ refusal. ReadIs pair.contents (λ contents. IsRefused contents pair.text.items refusal))
    → IsMade Is IsRefused pair file certificate made
made_of {X} Is IsRefused pair file certificate found (Ok x) same shown is refused =
    subst (λ (z : Result X ContentsRefusal). IfOk z (λ y. ReadIs pair.contents (λ contents. Is contents pair.text.items y))) same is
made_of Is IsRefused pair file certificate (Ok x) (Err answer) same shown is refused = absurd shown
made_of Is IsRefused pair file certificate (Err refusal) (Err answer) same shown is refused =
    record { refusal = refusal; cause = refused; line = shown }

-- a certificate that is too long, or a file or certificate that is refused, ends the run, whatever the rest is
pub ended_pair : {X : Type 0} (Is : List ℕ → List ℕ → X → Type 0) (IsRefused : List ℕ → List ℕ → ContentsRefusal → Type 0)
    (known : Option Files) (file certificate : List ℕ) (rest : X → Report) (status : Status) (bytes : List ℕ)
    → HasTooLongCertificate known file certificate status bytes ⊎ IsRefusedBy known file certificate IsRefused status bytes
    → WithCertificate known file certificate Is IsRefused rest status bytes
ended_pair Is IsRefused known file certificate rest status bytes (inl long) = inl long
ended_pair Is IsRefused known file certificate rest status bytes (inr refused) = inr (inl refused)
