use Rattle.std.proofs.Common.{take}
use Rattle.wb_automata.specs.Inner.Starts.{AreEndFlags}
use Rattle.wb_automata.proofs.common_texts.flags_of.Given as goal

abbrev pub invariant-loop-pair : goal.invariant-loop-pair
invariant-loop-pair l = AreEndFlags l.machine l.met (take l.pair-index l.pairs) l.flags.items
