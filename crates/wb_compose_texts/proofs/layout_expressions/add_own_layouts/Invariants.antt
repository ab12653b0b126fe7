use Rattle.wb_compose_texts.specs.Expressions.{layouts_past}
use Rattle.wb_compose_texts.specs.Inner.Added.{AreAdded}
use Rattle.wb_compose_texts.proofs.AddedLemmas.{blocks_to}
use Rattle.wb_compose_texts.proofs.layout_expressions.add_own_layouts.Given as goal

abbrev pub invariant-extensions : goal.invariant-extensions
invariant-extensions l =
    AreAdded (blocks_to (layouts_past l.count) l.extensions l.extension-index) l.initial.expressions.items l.expressions.items
