use Rattle.wb_tests_grammars.specs.Listed.{AddsRow}
use Rattle.wb_tests_grammars.proofs.parts.add_row.Given as goal

abbrev pub invariant-moves : goal.invariant-moves
invariant-moves l = AddsRow l.state l.row l.place l.initial.moves.items l.moves.items
