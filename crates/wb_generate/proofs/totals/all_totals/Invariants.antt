use Rattle.std.proofs.Common.{◌≡◌, take}
use Rattle.wb_generate.specs.Inner.Choices.{totals_of}
use Rattle.wb_generate.proofs.totals.all_totals.Given as goal

abbrev pub invariant-productions : goal.invariant-productions
invariant-productions l = l.totals.items ≡ totals_of 100001 l.counts (take l.production l.grammar.productions)
