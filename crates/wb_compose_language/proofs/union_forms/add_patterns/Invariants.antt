use Rattle.std.proofs.Common.{◌≡◌, ◌++◌, ◌-◌, drop, map, take}
use Rattle.wb_compose_language.proofs.KindLemmas.{pattern_of}
use Rattle.wb_compose_language.proofs.union_forms.add_patterns.Given as goal

abbrev pub invariant-rows : goal.invariant-rows
invariant-rows l = l.expressions.items ≡ l.initial.expressions.items ++ map pattern_of (take (l.row - l.first) (drop l.first l.rows))
