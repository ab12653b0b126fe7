use Rattle.std.proofs.Common.{◌≡◌, ◌+◌}
use Rattle.wb_compose_theory_grammar.specs.Places.{count_before}
use Rattle.wb_compose_language.specs.Inner.FormsMade.{AreMadeBelow}
use Rattle.wb_compose_language.specs.Inner.Opened.{sizes_in}
use Rattle.wb_compose_language.proofs.union_forms.add_extensions.Given as goal

abbrev pub invariant-extensions : goal.invariant-extensions
invariant-extensions l = (l.before ≡ count_before (sizes_in l.opened.lent) l.number) ×
    AreMadeBelow l.opened.lent (l.opened.lent.grammar.now.terminals + l.before) l.made
