use Rattle.std.proofs.Common.{◌-◌, ◌^◌, ◌≤◌, length}
use Rattle.wb_determinism_kernels.specs.Numbers.{up_by}
use Rattle.wb_determinism_kernels.specs.Inner.Following.{AreFollowed}
use Rattle.wb_determinism_kernels.specs.Inner.Starting.{AreStarted}
use Rattle.wb_determinism_kernels.proofs.new_kernels.NewKernels.find.Given as goal

abbrev pub invariant-kernels : goal.invariant-kernels
invariant-kernels l = record {
  started : AreStarted l.beside.host.now l.beside.grammar.now l.beside.numbers.now l.beside.images.now l.table.found l.starts.items
      (length l.beside.images.now);
  followed : AreFollowed l.beside.host.now l.beside.grammar.now (up_by l.beside.numbers.now) l.table.found l.table.closures.items
      l.table.rows.items;
  within : length l.table.closures.items ≤ length l.table.found.kernels;
}

abbrev pub decreases-kernels : goal.decreases-kernels
decreases-kernels l = 2 ^ 64 - length l.table.closures.items
