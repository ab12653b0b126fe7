-- Words and files have one status at most, with which a run ends, and one text where a refusal has no choice of example.
use Rattle.std.specs.Prelude.{◌≡◌, ◌≢◌, ◌⊎◌, ℕ, Option, Some, List}
use Rattle.wb_world.specs.Shelf.{Files}
use Rattle.wb_operations.specs.Operations.{Operations}
use Rattle.wb_program_words.specs.Asked.{Asked}
use Rattle.wb_program_words.specs.Asked as a
use Rattle.wb_program_words.specs.Words.{Asks}
use Rattle.wb_program_texts.specs.status.Status.{Status}
use Rattle.wb_program_texts.specs.status.Status.TheVariants.{SpecRefused, NotCertified, WriteFault}
pub use Rattle.wb_program_texts.specs.CertificateChecks.{ShowsKernel}
use Rattle.wb_program.specs.Report.{IsReport}
use Rattle.wb_program.specs.Written.{Wrote, WritesNothing}

-- each refusal of the command has one text; the others may show any true example
pub data HasOneRefusal : Asked → Type 0 where
  show_refuses : {file : List ℕ} → HasOneRefusal (a.show file)

-- words and known files have one status at most
abbrev pub HaveOneStatus : Type 0
HaveOneStatus = (operations : Operations) (words : List (List ℕ)) (files : Files) (status other : Status) (bytes others : List ℕ)
    → IsReport operations words (Some files) status bytes → IsReport operations words (Some files) other others → status ≡ other

-- words and known files have one text at most with a status, unless it is a refusal that may choose its example
abbrev pub HaveOneText : Type 0
HaveOneText = (operations : Operations) (words : List (List ℕ)) (files : Files) (status : Status) (bytes others : List ℕ)
    → ((status ≢ SpecRefused) × (status ≢ NotCertified) × ¬ ShowsKernel status bytes)
    ⊎ ((asked : Asked) → Asks words asked → HasOneRefusal asked)
    → IsReport operations words (Some files) status bytes → IsReport operations words (Some files) status others → bytes ≡ others

-- where words and known files have a report, a run ends with its status, so with 0 where everything is in order; else it ends at a file or
-- at the output, or when memory runs out
abbrev pub EndAsReported : Type 0
EndAsReported = (operations : Operations) (words : List (List ℕ)) (files : Files) (status end : Status) (bytes : List ℕ)
    (before now : Option (List ℕ)) → IsReport operations words (Some files) status bytes
    → Wrote (IsReport operations words (Some files)) before now end → (end ≡ status) ⊎ (end ≡ WriteFault) ⊎ WritesNothing end
