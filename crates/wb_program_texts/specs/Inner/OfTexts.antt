-- What is asked of a text in the language of a host with extensions, and what is reported of it.
use Rattle.std.specs.Prelude.{ℕ, List}
use Rattle.wb_operations.specs.Operations.{OperationSignature}
use Rattle.wb_syntax_resolved.specs.declared.resolved.ResolvedParts.{ResolvedParts}
use Rattle.wb_program_files.specs.Checks.{Report}
use Rattle.wb_program_texts.specs.Commands.Reading.{TextReadingReport}
use Rattle.wb_program_texts.specs.Commands.Tree.{TextReport}
use Rattle.wb_program_texts.specs.declared.texts.OfText.{OfText}
use Rattle.wb_program_texts.specs.declared.texts.OfText.TheVariants.{Tree, Reading}

-- its tree, or its reading
abbrev pub OfTextReport : OfText → List OperationSignature → ResolvedParts → List ResolvedParts → List ℕ → Report
OfTextReport Tree = TextReport
OfTextReport Reading = TextReadingReport
