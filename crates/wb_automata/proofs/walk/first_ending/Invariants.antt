use Rattle.std.proofs.Common.{◌-◌, ◌^◌}
use Rattle.wb_automata.specs.Inner.Endings.{AreApartBelow}
use Rattle.wb_automata.specs.Inner.Pairs.{IsWalked, met_of}
use Rattle.wb_automata.proofs.walk.first_ending.Given as goal

abbrev pub invariant-groups : goal.invariant-groups
invariant-groups l = record {
  walked : IsWalked l.seeds.places.now l.seeds.pairs.now (met_of l.groups) l.group;
  apart : AreApartBelow l.seeds.places.now l.groups.pairs l.group;
}

abbrev pub decreases-groups : goal.decreases-groups
decreases-groups l = 2 ^ 64 - l.group
