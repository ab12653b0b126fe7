-- Where the text of a run comes from, what is asked of it, and what is reported.
use Rattle.std.specs.Prelude.{◌≡◌, ◌≤◌, ℕ, Option, Some, None, List}
use Rattle.wb_compose_texts.specs.Composed.{IsOfUnion}
use Rattle.wb_operations.specs.Operations.{Operations, OperationSignature}
use Rattle.wb_report.specs.declared.done.Done.{Done}
use Rattle.wb_report.specs.declared.done.Done.TheVariants as done
use Rattle.wb_syntax_resolved.specs.declared.resolved.ResolvedParts.{ResolvedParts}
use Rattle.wb_compose_texts.specs.Unions.{all_resolved}
use Rattle.wb_compose_texts.specs.Roots.{IsRootAttribute}
use Rattle.wb_world.specs.Shelf.{Files}
use Rattle.wb_program_files.specs.Checks.{Report, Check}
use Rattle.wb_program_texts.specs.Composable.{AreApart}
use Rattle.wb_program_files.specs.Texts.{IsText, IsTooLongText}
use Rattle.wb_program_files.specs.declared.status.Status.TheVariants.{TextTooLong}
use Rattle.wb_program_texts.specs.Commands.Generate.{GenerateChecks, MadeReport}
use Rattle.wb_program_texts.specs.Commands.Run.{RunChecks}
use Rattle.wb_program_texts.specs.Values.{TextValueReport}
use Rattle.wb_program_texts.specs.declared.asked.Asked.{Asked}
use Rattle.wb_program_texts.specs.declared.source.Source.{Source}
use Rattle.wb_program_texts.specs.declared.source.Source.TheVariants.{File, Number}

-- how a printed value is shown: with the attribute's name, and after so many leaves and bytes where the text was made
abbrev pub shown_with : (name : List ℕ) → (bytes : ℕ) → (leaves : Option ℕ) → List ℕ → Done
shown_with name bytes None = λ printed. done.Value name printed
shown_with name bytes (Some leaves) = λ printed. done.Generated leaves bytes name printed

-- a text that is made has few leaves
abbrev pub HasFewLeaves : Source → Type 0
HasFewLeaves (File file steps) = Unit {0}
HasFewLeaves (Number number size) = size ≤ 100000

-- what is reported of a host with extensions
abbrev pub SourceChecks : Operations → Option Files → (name : List ℕ) → Source → ResolvedParts → List ResolvedParts → Report
SourceChecks operations known name (File file steps) = RunChecks operations known file.now name steps
SourceChecks operations known name (Number number size) = GenerateChecks operations number size name

-- the text's file meets this, where it has one
abbrev pub SourceText : (List ℕ → Type 0) → Source → Type 0
SourceText P (File file steps) = P file.now
SourceText P (Number number size) = ⊥

-- the text's file meets this, where the attribute may be asked
abbrev pub SourceEnd : List OperationSignature → (name : List ℕ) → Source → (List ℕ → Type 0) → ResolvedParts → List ResolvedParts → Type 0
SourceEnd operations name (File file steps) P r values = ((attribute : ℕ) × IsRootAttribute r operations values name attribute) × P file.now
SourceEnd operations name (Number number size) P r values = ⊥

-- the host has with the extensions these attributes, of which this one may be asked at the start by the name
pub record IsAsked (operations : List OperationSignature) (asked : Asked) : Type 0 where
  pub same : asked.host.now.operations ≡ operations
  pub apart : AreApart asked.host.now asked.extensions.now
  pub attributes : IsOfUnion asked.host.now.resolved asked.host.now.operations (all_resolved asked.extensions.now) asked.attributes.now
  pub is_root : IsRootAttribute asked.host.now.resolved asked.host.now.operations (all_resolved asked.extensions.now) asked.name.now
      asked.attribute

-- what is reported after the attribute
abbrev pub SourceRest : Operations → Option Files → Source → Asked → Report
SourceRest operations known (File file steps) asked =
    Check TextTooLong (IsTooLongText known file.now) (IsText known file.now)
    (λ (text : List ℕ). TextValueReport operations asked.host.now.resolved (all_resolved asked.extensions.now) asked.name.now steps
    (shown_with asked.name.now 0 None) text)
SourceRest operations known (Number number size) asked =
    MadeReport operations asked.host.now.resolved (all_resolved asked.extensions.now) asked.name.now number size
