use Rattle.std.proofs.Common.{◌<◌, ◌∙◌, ap, arith, get_or, length, subst}
use Rattle.wb_automata.specs.Inner.Pairs.{Adds, LeadTo, pair_steps}
use Rattle.wb_automata.proofs.ClosingLemmas.{closes_begin, closes_more}
use Rattle.wb_automata.proofs.groups.close.Goals as goal

pub pairs-init : goal.pairs-init
pairs-init c = closes_begin c.args.places.now c.args.met.now c.args.next.now c.requires.pairs

pub pairs-preserved : goal.pairs-preserved
pairs-preserved c =
    let lt : c.pairs.i < length c.pairs.next = omega (arith, c.pairs-test.true, ap length c.as_slice.ensures) in
    closes_more c.args.places.now c.args.met.now c.args.next.now c.pairs.met c.meet_steps.new.met c.pairs.next c.meet_steps.new.next
    c.pairs.i c.requires.small lt
    (subst (λ z. Adds (LeadTo z) c.pairs.met c.pairs.next c.meet_steps.new.met c.meet_steps.new.next)
    (c.pair_steps.ensures ∙ ap (λ z. pair_steps c.args.places.now (get_or z c.pairs.i 0)) c.as_slice-in-pairs.ensures)
    c.in_ok-meet_steps.ensures) c.pairs.invariant
