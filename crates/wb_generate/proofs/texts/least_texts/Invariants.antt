use Rattle.std.proofs.Common.{take}
use Rattle.std.specs.List.{AllZip}
use Rattle.wb_automata.specs.Overlaps.{IsLeastMatch}
use Rattle.wb_generate.proofs.texts.least_texts.Given as goal

abbrev pub invariant-expressions : goal.invariant-expressions
invariant-expressions l = AllZip IsLeastMatch (take l.place l.expressions) l.texts.items
