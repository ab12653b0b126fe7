use Rattle.std.proofs.Common.{◌-◌, ◌≤◌, length}
use Rattle.wb_automata.specs.Inner.Ways.{IsOnWay}
use Rattle.wb_automata.proofs.explore.move_on.Given as goal

abbrev pub invariant-bytes : goal.invariant-bytes
invariant-bytes l = record {
  way : IsOnWay l.tables l.bytes l.fn.states l.states l.i l.moves l.ways.chains l.ways.ends.items l.c;
  within : l.c ≤ length l.bytes;
}

abbrev pub decreases-bytes : goal.decreases-bytes
decreases-bytes l = length l.bytes - l.c
