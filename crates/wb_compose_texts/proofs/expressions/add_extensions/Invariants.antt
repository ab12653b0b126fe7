use Rattle.wb_compose_texts.specs.Expressions.{added_rows}
use Rattle.wb_compose_texts.specs.Inner.Added.{AreAdded}
use Rattle.wb_compose_texts.proofs.AddedLemmas.{blocks_to}
use Rattle.wb_compose_texts.proofs.expressions.add_extensions.Given as goal

abbrev pub invariant-extensions : goal.invariant-extensions
invariant-extensions l = AreAdded (blocks_to (added_rows l.host) l.extensions l.extension-index) l.initial.expressions.items l.expressions.items
