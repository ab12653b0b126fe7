use Rattle.std.proofs.Common.{◌≡◌, ◌++◌, take}
use Rattle.std.specs.List.{flat_map}
use Rattle.wb_recheck_text.specs.Text.{line_text}
use Rattle.wb_recheck_text.proofs.print.push_lines.Given as goal

abbrev pub invariant-lines : goal.invariant-lines
invariant-lines l = l.out.items ≡ l.initial.out.items ++ flat_map line_text (take l.line-index l.lines)
