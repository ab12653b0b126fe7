use Rattle.wb_tests_grammars.specs.Listed.{AreListsUpTo}
use Rattle.wb_tests_grammars.proofs.parts.lists_of.Given as goal

abbrev pub invariant-states : goal.invariant-states
invariant-states l = AreListsUpTo l.kernels l.lists.items l.state
