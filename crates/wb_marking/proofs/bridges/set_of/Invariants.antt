use Rattle.std.proofs.Common.{take}
use Rattle.wb_marking.specs.Inner.Begun.{AreIn}
use Rattle.wb_marking.proofs.bridges.set_of.Given as goal

abbrev pub invariant-numbers : goal.invariant-numbers
invariant-numbers l = AreIn l.count (take l.number-index l.numbers) l.set
