use Rattle.std.proofs.Common.{◌≡◌, ◌++◌, take}
use Rattle.std.specs.List.{flat_map}
use Rattle.wb_recheck_text.specs.Text.{entry_text}
use Rattle.wb_recheck_text.proofs.print.push_entries.Given as goal

abbrev pub invariant-entries : goal.invariant-entries
invariant-entries l = l.out.items ≡ l.initial.out.items ++ flat_map entry_text (take l.entry-index l.entries)
