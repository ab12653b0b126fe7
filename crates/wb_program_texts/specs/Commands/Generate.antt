-- What `generate --number N --size K --attr NAME HOST EXT..` reports.
use Rattle.std.specs.Prelude.{◌≡◌, ◌<◌, ◌≤◌, ◌⊎◌, ℕ, Option, List, length}
use Rattle.wb_compose_texts.specs.generated_text.Generated.{Generated}
use Rattle.wb_compose_texts.specs.generated_text.Generated.TheVariants as g
use Rattle.wb_compose_texts.specs.Generated.{IsGeneratedText}
use Rattle.wb_operations.specs.Operations.{Operations}
use Rattle.wb_report.specs.Lines.{report_of}
use Rattle.wb_report.specs.declared.done.Done.TheVariants as done
use Rattle.wb_report.specs.declared.outcome.Outcome.TheVariants as o
use Rattle.wb_syntax_resolved.specs.declared.resolved.ResolvedParts.{ResolvedParts}
use Rattle.wb_world.specs.Shelf.{Files}
use Rattle.wb_program_files.specs.Checks.{Report, Ends}
use Rattle.wb_program_texts.specs.SeveralChecks.{SeveralChecks}
use Rattle.wb_program_files.specs.declared.status.Status.{Status}
use Rattle.wb_program_files.specs.declared.status.Status.TheVariants.{NoSentence, TextTooLong}
use Rattle.wb_program_texts.specs.Values.{AttributeCheck, TextValueReport}

-- the text was made and is too long, and the line says so
pub record IsTooLongMade (text bytes : List ℕ) : Type 0 where
  pub long : 1048576 < length text
  pub line : bytes ≡ report_of o.TextTooLong

module _ (operations : Operations) (host : ResolvedParts) (extensions : List ResolvedParts) (name : List ℕ) where
  -- a text of so many leaves that was made: it is too long, or what comes of it and the attribute of this name, within 1,000,000 steps
  abbrev pub MadeTextReport : (leaves : ℕ) → (text : List ℕ) → Report
  MadeTextReport leaves text status bytes =
      Ends TextTooLong (IsTooLongMade text) status bytes
      ⊎ ((length text ≤ 1048576) × TextValueReport operations host extensions name 1000000
      (λ printed. done.Generated leaves (length text) name printed) text status bytes)

  -- what was made of at most so many leaves: a text, or no sentence has so few, and the line says so
  abbrev pub ShownMade : (size : ℕ) → Generated → Report
  ShownMade size (g.Text text leaves) = MadeTextReport leaves text
  ShownMade size (g.NoSentence least) = Ends NoSentence (λ bytes. bytes ≡ report_of (o.NoSentence size least))

  -- the number makes something of at most so many leaves in the language of a host with extensions, and this is its status and lines
  pub record MadeReport (number size : ℕ) (status : Status) (bytes : List ℕ) : Type 0 where
    pub made : Generated
    pub is : IsGeneratedText host operations.signatures extensions number size made
    pub shown : ShownMade size made status bytes

-- of a host with extensions: the attribute, then what the number makes
abbrev pub GenerateChecks : Operations → (number size : ℕ) → (name : List ℕ) → ResolvedParts → List ResolvedParts → Report
GenerateChecks operations number size name host extensions =
    AttributeCheck operations.signatures host extensions name (MadeReport operations host extensions name number size)

-- the host and the extensions, and then the rest
abbrev pub GenerateReport : Operations → Option Files → (number size : ℕ) → (name host : List ℕ) → (extensions : List (List ℕ)) → Report
GenerateReport operations known number size name host extensions =
    SeveralChecks operations.signatures known host extensions (GenerateChecks operations number size name)
