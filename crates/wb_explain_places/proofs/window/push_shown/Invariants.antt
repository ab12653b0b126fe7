use Rattle.std.proofs.Common.{◌≡◌, ◌++◌, take}
use Rattle.wb_explain_places.specs.Window.{shown}
use Rattle.wb_explain_places.proofs.window.push_shown.Given as goal

abbrev pub invariant-bytes : goal.invariant-bytes
invariant-bytes l = l.out.items ≡ l.initial.out.items ++ shown (take l.byte-index l.bytes)
