use Rattle.std.proofs.Common.{◌≡◌, ◌≤◌, length, take}
use Rattle.wb_generate.specs.Inner.Choices.{between}
use Rattle.wb_generate.proofs.choose.count.Given as goal

abbrev pub invariant-numbers : goal.invariant-numbers
invariant-numbers l = (l.many ≡ length (between l.totals l.low l.high (take l.number-index l.numbers))) × (l.many ≤ l.number-index)
