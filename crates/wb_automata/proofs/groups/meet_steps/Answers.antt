use Rattle.std.proofs.Common.{◌≡◌}
use Rattle.wb_automata.proofs.PairLemmas.{adds_both}
use Rattle.wb_automata.proofs.groups.meet_steps.Goals as goal

pub returns-in_ok-meet-in-One : goal.returns-in_ok-meet-in-One
returns-in_ok-meet-in-One c = rw (c.in-One.is) c.in_ok-meet-in-One.ensures

pub returns-in_ok-meet-in-Two-2 : goal.returns-in_ok-meet-in-Two-2
returns-in_ok-meet-in-Two-2 c = rw (c.in-Two.is) (adds_both (λ d. d ≡ c.in-Two.q) (λ d. d ≡ c.in-Two.r) c.args.met.now
    c.meet-in-Two.new.met c.meet-in-Two-2.new.met c.args.next.now c.meet-in-Two.new.next c.meet-in-Two-2.new.next
    c.in_ok-meet-in-Two.ensures c.in_ok-meet-in-Two-2.ensures)
