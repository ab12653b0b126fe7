use Rattle.std.proofs.Common.{◌≡◌, ◌++◌, take}
use Rattle.wb_compose_attributes.specs.Inner.Gathered.{nonterminals_by}
use Rattle.wb_compose_attributes.proofs.rows.add_nonterminals.Given as goal

abbrev pub invariant-rows : goal.invariant-rows
invariant-rows l = l.made.items ≡ l.initial.made.items ++ nonterminals_by l.numbers (take l.row-index l.rows)
