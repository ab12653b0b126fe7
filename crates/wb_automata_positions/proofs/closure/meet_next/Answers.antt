use Rattle.std.proofs.Common.{◌≡◌}
use Rattle.wb_automata_positions.proofs.ClosureLemmas.{adds_both}
use Rattle.wb_automata_positions.proofs.closure.meet_next.Goals as goal

pub returns-in_ok-meet-in-Go : goal.returns-in_ok-meet-in-Go
returns-in_ok-meet-in-Go c = rw (c.in-Go.is) c.in_ok-meet-in-Go.ensures

pub returns-in_ok-meet-in-Fork-2 : goal.returns-in_ok-meet-in-Fork-2
returns-in_ok-meet-in-Fork-2 c = rw (c.in-Fork.is) (adds_both (λ d. d ≡ c.in-Fork.q) (λ d. d ≡ c.in-Fork.r) c.args.met.now
    c.meet-in-Fork.new.met c.meet-in-Fork-2.new.met c.in_ok-meet-in-Fork.ensures c.in_ok-meet-in-Fork-2.ensures)
