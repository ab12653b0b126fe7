use Rattle.std.proofs.Common.{None}
use Rattle.wb_compose_texts.specs.Inner.Added.{AreAdded}
use Rattle.wb_compose_texts.proofs.AddedLemmas.{read_rows}
use Rattle.wb_compose_texts.proofs.expression_rows.add_own.Given as goal

abbrev pub invariant-rows : goal.invariant-rows
invariant-rows l = AreAdded (read_rows None l.from l.to l.rows l.number) l.initial.expressions.items l.expressions.items
