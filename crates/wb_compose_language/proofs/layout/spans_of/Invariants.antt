use Rattle.std.proofs.Common.{◌≡◌, ◌+◌}
use Rattle.wb_compose_theory_grammar.specs.Places.{count_before}
use Rattle.wb_compose_language.specs.Inner.Layouts.{AreSpansBelow, hosts_in, layout_sizes_in}
use Rattle.wb_compose_language.proofs.SpanLemmas.{first_in}
use Rattle.wb_compose_language.proofs.layout.spans_of.Given as goal

abbrev pub invariant-extensions : goal.invariant-extensions
invariant-extensions l = record {
  first : l.first ≡ first_in l.lent l.number;
  spans : AreSpansBelow l.lent (hosts_in l.lent + count_before (layout_sizes_in l.lent) l.number) l.spans.items;
}
