use Rattle.std.proofs.Common.{◌≡◌}
use Rattle.wb_items.specs.Kernels.{count_of}
use Rattle.wb_recheck_lines.specs.Inner.Walks.{AreStatesUpTo}
use Rattle.wb_recheck_lines.proofs.line_states.states_of_lines.Given as goal

abbrev pub invariant-lines : goal.invariant-lines
invariant-lines l = AreStatesUpTo l.kernels l.lines l.found.states l.place × (l.found.count ≡ count_of l.kernels)
