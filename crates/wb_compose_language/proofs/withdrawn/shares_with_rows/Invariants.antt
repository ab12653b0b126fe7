use Rattle.wb_compose_language.specs.Inner.Sharing.{SharesBefore}
use Rattle.wb_compose_language.proofs.withdrawn.shares_with_rows.Given as goal

abbrev pub invariant-rows : goal.invariant-rows
invariant-rows l = ¬ SharesBefore l.rows.first l.row l.extension l.asked.pattern.now
