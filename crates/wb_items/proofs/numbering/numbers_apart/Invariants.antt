use Rattle.wb_items.specs.Inner.Numbering.{NumberedUpTo}
use Rattle.wb_items.proofs.numbering.numbers_apart.Given as goal

abbrev pub invariant-states : goal.invariant-states
invariant-states l = NumberedUpTo l.kernels l.state l.numbers.items l.made
