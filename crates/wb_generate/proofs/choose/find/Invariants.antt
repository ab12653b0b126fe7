use Rattle.std.proofs.Common.{◌≡◌, ◌≤◌, length, take}
use Rattle.wb_generate.specs.Inner.Choices.{between}
use Rattle.wb_generate.proofs.choose.find.Given as goal

abbrev pub invariant-numbers : goal.invariant-numbers
invariant-numbers l =
    (l.passed ≡ length (between l.totals l.low l.high (take l.number-index l.numbers))) × (l.passed ≤ l.wanted) × (l.passed ≤ l.number-index)
