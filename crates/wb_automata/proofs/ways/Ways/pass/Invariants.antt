use Rattle.std.proofs.Common.{length, ◌-◌, ◌≤◌}
use Rattle.wb_automata.specs.Inner.Ways.{HasPassed}
use Rattle.wb_automata.proofs.ways.Ways.pass.Given as goal

abbrev pub invariant-bytes : goal.invariant-bytes
invariant-bytes l = HasPassed l.node l.bytes l.q l.c l.fn.self.chains l.fn.self.ends.items l.self.chains l.self.ends.items × (l.c ≤ length l.bytes)

abbrev pub decreases-bytes : goal.decreases-bytes
decreases-bytes l = length l.bytes - l.c
