use Rattle.wb_digraph.specs.Inner.Links.{AreShiftsUpTo}
use Rattle.wb_digraph.specs.Inner.Pools.{Extends}
use Rattle.wb_digraph.proofs.reads.shift_numbers.Given as goal

abbrev pub invariant-states : goal.invariant-states
invariant-states l = record {
  extends : Extends l.initial.pool l.pool;
  shifts : AreShiftsUpTo l.context.kernels.now l.state l.pool l.shifts.items;
}
