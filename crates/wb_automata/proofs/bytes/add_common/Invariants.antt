use Rattle.std.proofs.Common.{take}
use Rattle.wb_automata.specs.Inner.Pairs.{HasCommonBytes}
use Rattle.wb_automata.proofs.bytes.add_common.Given as goal

abbrev pub invariant-loop-pair : goal.invariant-loop-pair
invariant-loop-pair l = HasCommonBytes l.places (take l.pair-index l.pairs) l.words
