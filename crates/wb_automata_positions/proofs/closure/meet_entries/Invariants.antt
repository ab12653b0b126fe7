use Rattle.std.proofs.Common.{◌≡◌}
use Rattle.wb_automata_positions.specs.Inner.Closures.{Adds}
use Rattle.wb_automata_positions.specs.Transitions.{entry_of}
use Rattle.wb_automata_positions.proofs.ClosureLemmas.{OfFirst}
use Rattle.wb_automata_positions.proofs.closure.meet_entries.Given as goal

abbrev pub invariant-loop-p : goal.invariant-loop-p
invariant-loop-p l = Adds (OfFirst (λ from d. d ≡ entry_of l.tables from) l.set l.p-index) l.fn.met l.met
