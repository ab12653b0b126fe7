use Rattle.wb_compose_texts.specs.Inner.Tables.{AreAdded}
use Rattle.std.proofs.Common.{take}
use Rattle.wb_compose_texts.specs.Unions.{all_resolved}
use Rattle.wb_compose_texts.proofs.signatures.add_extensions.Given as goal

abbrev pub invariant-extensions : goal.invariant-extensions
invariant-extensions l = AreAdded l.host (all_resolved (take l.extension-index l.extensions)) l.initial.made l.made l.before
