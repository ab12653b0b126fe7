use Rattle.wb_scan.proofs.LandingLemmas.{HasNoMoveBelow}
use Rattle.wb_scan.proofs.landing.goes_on.Given as goal

abbrev pub invariant-bytes : goal.invariant-bytes
invariant-bytes l = HasNoMoveBelow l.automaton l.state l.byte
