use Rattle.std.proofs.Common.{◌-◌, ◌^◌}
use Rattle.wb_automata.specs.Inner.Pairs.{IsWalked, met_of}
use Rattle.wb_automata.proofs.walk.walk.Given as goal

abbrev pub invariant-groups : goal.invariant-groups
invariant-groups l = IsWalked l.seeds.places.now l.seeds.pairs.now (met_of l.groups) l.group

abbrev pub decreases-groups : goal.decreases-groups
decreases-groups l = 2 ^ 64 - l.group
