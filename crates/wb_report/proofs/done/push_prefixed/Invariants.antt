use Rattle.std.proofs.Common.{◌≡◌, ◌++◌, take}
use Rattle.wb_report.specs.Done.{prefix_lines}
use Rattle.wb_report.proofs.done.push_prefixed.Given as goal

abbrev pub invariant-markers : goal.invariant-markers
invariant-markers l = l.out.items ≡ l.initial.out.items ++ prefix_lines (take l.marker-index l.markers)
