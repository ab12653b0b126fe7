use Rattle.std.proofs.Common.{◌≡◌, subst}
use Rattle.wb_automata.specs.Inner.Pairs.{LeadTo, bare_steps}
use Rattle.wb_automata.proofs.AnswerLemmas.{steps_below}
use Rattle.wb_automata.proofs.PairLemmas.{bare_is, bare_left, right_below}
use Rattle.wb_automata.proofs.steps.pair_steps.Goals as goal

pub both_steps-steps-requires-clause-lefts : goal.both_steps-steps-requires-clause-lefts
both_steps-steps-requires-clause-lefts c = rw (c.steps_of.ensures) (steps_below c.args.places.now _ _ c.requires.small.below
    c.requires.pair)

pub both_steps-steps-requires-clause-rights : goal.both_steps-steps-requires-clause-rights
both_steps-steps-requires-clause-rights c = rw (c.steps_of-2.ensures)
    (steps_below c.args.places.now _ _ c.requires.small.below (right_below c.args.places.now c.args.pair c.requires.pair))

pub unstuck-requires : goal.unstuck-requires
unstuck-requires c d h =
    let places = c.args.places.now in
    let bare : c.both_steps-steps.result ≡ bare_steps places c.args.pair = bare_is places c.args.pair _ _ c.both_steps-steps.result _ _
    c.requires.pair c.both_steps-steps.ensures c.steps_of.ensures c.steps_of-2.ensures in
    bare_left places c.args.pair d c.requires.small.below c.requires.pair (subst (λ z. LeadTo z d) bare h)
