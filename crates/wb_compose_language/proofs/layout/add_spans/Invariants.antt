use Rattle.std.proofs.Common.{◌≡◌, ◌++◌, replicate}
use Rattle.wb_compose_language.proofs.layout.add_spans.Given as goal

abbrev pub invariant-layouts : goal.invariant-layouts
invariant-layouts l = l.spans.items ≡ l.initial.spans.items ++ replicate l._layout l.span
