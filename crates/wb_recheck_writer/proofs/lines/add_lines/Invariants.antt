use Rattle.std.proofs.Common.{◌-◌, ◌^◌}
use Rattle.wb_recheck_writer.specs.Inner.Lines.{AreNumberedUpTo}
use Rattle.wb_recheck_writer.proofs.lines.add_lines.Given as goal

abbrev pub invariant-kernels : goal.invariant-kernels
invariant-kernels l = AreNumberedUpTo l.kernels l.numbered l.from

abbrev pub decreases-kernels : goal.decreases-kernels
decreases-kernels l = 2 ^ 64 - l.from
