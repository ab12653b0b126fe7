use Rattle.std.proofs.Common.{◌+◌}
use Rattle.wb_compose_theory_grammar.specs.Places.{count_before}
use Rattle.wb_compose_language.specs.Inner.Layouts.{AreTreesAdded, hosts_in, layout_sizes_in}
use Rattle.wb_compose_language.proofs.union_forms.add_layout.Given as goal

abbrev pub invariant-extensions : goal.invariant-extensions
invariant-extensions l = AreTreesAdded l.lent (hosts_in l.lent + count_before (layout_sizes_in l.lent) l.number)
    l.fn.expressions.items l.expressions.items
