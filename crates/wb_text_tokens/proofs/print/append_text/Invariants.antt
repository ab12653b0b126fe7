use Rattle.std.proofs.Common.{◌≡◌, ◌++◌, ◌∷◌, [], take}
use Rattle.std.specs.List.{flat_map}
use Rattle.wb_text_tokens.specs.Printing.{printed_byte}
use Rattle.wb_text_tokens.proofs.print.append_text.Given as goal

abbrev pub invariant-loop-b : goal.invariant-loop-b
invariant-loop-b l = l.out.items ≡ (l.fn.out.items ++ 34 ∷ []) ++ flat_map printed_byte (take l.b-index l.text)
