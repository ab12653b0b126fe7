use Rattle.std.proofs.Common.{◌≡◌, ◌++◌, map, take}
use Rattle.wb_explain_names.specs.Said.{without_caret}
use Rattle.wb_explain_names.proofs.show.push_without_carets.Given as goal

abbrev pub invariant-bytes : goal.invariant-bytes
invariant-bytes l = l.out.items ≡ l.initial.out.items ++ map without_caret (take l.byte-index l.words)
