use Rattle.std.proofs.Common.{◌≡◌}
use Rattle.wb_compose_language.specs.Inner.Known.{ArePatternsAdded}
use Rattle.wb_compose_language.proofs.known.add_rows.Given as goal

abbrev pub invariant-rows : goal.invariant-rows
invariant-rows l = record {
  patterns : ArePatternsAdded l.first l.number l.extension l.fn.owns.patterns.items l.owns.patterns.items;
  bases : l.owns.bases.items ≡ l.fn.owns.bases.items;
}
