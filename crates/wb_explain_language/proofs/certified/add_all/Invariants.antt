-- The first extensions are added.
use Rattle.std.proofs.Common.{take}
use Rattle.wb_explain_language.specs.Inner.Added.{HasAdded}
use Rattle.wb_explain_language.proofs.certified.add_all.Given as goal

abbrev pub invariant-files : goal.invariant-files
invariant-files g l =
    HasAdded l.operations.signatures l.initial.certified.host (take l.file-index l.files) l.certified
