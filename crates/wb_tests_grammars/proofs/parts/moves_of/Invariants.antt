use Rattle.wb_tests_grammars.specs.Listed.{AreMovesUpTo}
use Rattle.wb_tests_grammars.proofs.parts.moves_of.Given as goal

abbrev pub invariant-states : goal.invariant-states
invariant-states l = AreMovesUpTo l.kernels l.moves.items l.state
