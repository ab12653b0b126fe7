-- What a run writes where its words and files have a report, and that `run` comes to the value of a text's attribute.
use Rattle.std.specs.Prelude.{◌≡◌, ◌≢◌, ◌≤◌, ◌⊎◌, ℕ, Option, Some, List, length}
use Rattle.std.specs.Io.KnownBytes.{append_known}
use Rattle.wb_compose_texts.specs.Roots.{IsAskedIn, attributes_in}
use Rattle.wb_compose_texts.specs.Unions.{IsLanguageOf, Union}
use Rattle.wb_compose_texts.specs.Values.{IsTextValue}
use Rattle.wb_compose_texts.specs.declared.value.TextValue.TheVariants as v
use Rattle.wb_compose_texts.specs.tree_value.TreeValue.TheVariants as t
use Rattle.wb_eval_theory.specs.Answers.{HasAnswer}
use Rattle.wb_eval_theory.specs.Instances.{root, synthesized_at}
use Rattle.wb_eval_theory.specs.Walks as walk
use Rattle.wb_grammar_theory.specs.Trees.{Forest}
use Rattle.wb_operations.specs.Operations.{Operations}
use Rattle.wb_report.specs.Lines.{report_of}
use Rattle.wb_report.specs.declared.done.Done.TheVariants as done
use Rattle.wb_report.specs.declared.outcome.Outcome.TheVariants as o
use Rattle.wb_scan_theory.specs.Languages.{LanguageView}
use Rattle.wb_scan_theory.specs.Shown.{Shows}
use Rattle.wb_scan_theory.specs.Texts.{ParsesTo}
use Rattle.wb_syntax_resolved.specs.declared.resolved.ResolvedParts.{ResolvedParts}
use Rattle.wb_terms.specs.Printed.{printed_value}
use Rattle.wb_values.specs.Tree.{Tree, Value}
use Rattle.wb_world.specs.Shelf.{Files}
use Rattle.wb_program_words.specs.Asked as a
use Rattle.wb_program_words.specs.Words.{Asks}
use Rattle.wb_program.specs.Texts.{IsText}
use Rattle.wb_program.specs.status.Status.{Status}
use Rattle.wb_program.specs.status.Status.TheVariants.{Done, NotCertified, SpecRefused, WriteFault}
use Rattle.wb_program.specs.Laws.{ShowsKernel}
use Rattle.wb_program.specs.Report.{IsReport}
use Rattle.wb_program.specs.Written.{WritesNothing, Wrote, WrotePrefix}
use Rattle.wb_program_theory.specs.Certified.{AreCertified}

-- a run with this report wrote the whole of it and ended with its status; or it wrote a part of it, since a write failed; or it wrote
-- nothing, since it ended at a file or out of memory
abbrev pub WroteReport : (status : Status) (bytes : List ℕ) → Option (List ℕ) → Option (List ℕ) → Status → Type 0
WroteReport status bytes before now end =
    ((end ≡ status) × (now ≡ append_known before bytes)) ⊎ ((end ≡ WriteFault) × WrotePrefix before now bytes)
    ⊎ (WritesNothing end × (now ≡ before))

-- where words and known files have a report that refuses no specification, and shows no kernel of a certificate, a run wrote that report,
-- unless it ended at a file, at the output or out of memory
abbrev pub WriteAsReported : Type 0
WriteAsReported = (operations : Operations) (words : List (List ℕ)) (files : Files) (status end : Status) (bytes : List ℕ)
    (before now : Option (List ℕ)) → status ≢ SpecRefused → status ≢ NotCertified → ¬ ShowsKernel status bytes
    → IsReport operations words (Some files) status bytes → Wrote (IsReport operations words (Some files)) before now end
    → WroteReport status bytes before now end

module _ (host : ResolvedParts) (operations : Operations) (extensions : List ResolvedParts) (text name : List ℕ) where
  -- within so many steps the attribute of this name has a value at the root of the text's tree, which is printed so and isn't too long
  abbrev pub ComesToPrinted : (steps : ℕ) → (printed : List ℕ) → Type 0
  ComesToPrinted steps printed = IsTextValue host operations extensions text name steps (v.Tree (t.Value printed))

  -- the text has a tree in the language of the host with its extensions, and the attribute of this name may be asked at its root and has a
  -- value there, which is printed so and isn't too long
  pub record HasPrintedValue (printed : List ℕ) : Type 0 where
    pub whole : Union host operations.signatures extensions
    pub language : LanguageView
    pub is_language : IsLanguageOf host operations.signatures extensions whole language
    pub parsed : Forest
    pub parses : ParsesTo language text parsed
    pub top : Tree
    pub shows : Shows top parsed
    pub attribute : ℕ
    pub asked : IsAskedIn host operations.signatures extensions whole name attribute
    pub given : Value
    pub has : HasAnswer (attributes_in host operations.signatures extensions whole) operations top (synthesized_at root attribute)
        (walk.value given)
    pub is : printed ≡ printed_value (attributes_in host operations.signatures extensions whole).signatures given
    pub short : length printed ≤ 16777216

  -- so many steps are enough for the printed value, and so are more
  abbrev pub AreEnoughFor : (printed : List ℕ) → ℕ → Type 0
  AreEnoughFor printed n = (steps : ℕ) → n ≤ steps → ComesToPrinted steps printed

-- where the words ask for `run`, files are certified, and within the steps the attribute has a printed value at the root of the text's
-- tree, a run wrote that value and ended with 0, unless it ended at a file, at the output or out of memory
abbrev pub RunComesToValue : Type 0
RunComesToValue = (operations : Operations) (words : List (List ℕ)) (files : Files) (text name host : List ℕ) (steps : ℕ)
    (extensions : List (List ℕ)) (r : ResolvedParts) (values : List ResolvedParts) (contents printed : List ℕ)
    (before now : Option (List ℕ)) (end : Status) → Asks words (a.run text name steps host extensions)
    → AreCertified operations.signatures files host extensions r values → IsText (Some files) text contents
    → ComesToPrinted r operations values contents name steps printed → Wrote (IsReport operations words (Some files)) before now end
    → WroteReport Done (report_of (o.Done (done.Value name printed))) before now end

-- where the attribute has such a value at all, some number of steps is enough for it
abbrev pub HaveEnoughSteps : Type 0
HaveEnoughSteps = (host : ResolvedParts) (operations : Operations) (extensions : List ResolvedParts) (text name printed : List ℕ)
    → HasPrintedValue host operations extensions text name printed
    → (n : ℕ) × AreEnoughFor host operations extensions text name printed n
