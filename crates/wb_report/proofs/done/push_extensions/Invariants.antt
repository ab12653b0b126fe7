use Rattle.std.proofs.Common.{◌≡◌, ◌++◌, take}
use Rattle.wb_report.specs.Done.{extension_lines}
use Rattle.wb_report.proofs.done.push_extensions.Given as goal

abbrev pub invariant-names : goal.invariant-names
invariant-names l = l.out.items ≡ l.initial.out.items ++ extension_lines (take l.name-index l.names)
