use Rattle.std.proofs.Common.{◌≡◌, replicate, false}
use Rattle.wb_grammar.proofs.first_sets.FirstSets.new.Given as goal

abbrev pub invariant-sets : goal.invariant-sets
invariant-sets l = l.made.items ≡ replicate l.counter (replicate l.count false)
