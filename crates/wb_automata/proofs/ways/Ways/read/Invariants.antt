use Rattle.wb_automata.specs.Inner.Ways.{AreWays}
use Rattle.wb_automata.proofs.ways.Ways.read.Given as goal

abbrev pub invariant-loop-q : goal.invariant-loop-q
invariant-loop-q l = AreWays l.nodes l.bytes l.ahead l.self.chains l.self.ends.items l.q-index
