use Rattle.wb_automata.specs.Inner.Endings.{KeepRows}
use Rattle.wb_automata.specs.Inner.Pairs.{IsPassing, met_of}
use Rattle.wb_automata.proofs.walk.go_on.Given as goal

abbrev pub invariant-loop-byte : goal.invariant-loop-byte
invariant-loop-byte l = record {
  passing : IsPassing l.seeds.places.now l.seeds.pairs.now (met_of l.groups) l.group l.byte;
  kept : KeepRows l.fn.groups.pairs l.groups.pairs;
}
