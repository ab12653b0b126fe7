use Rattle.std.proofs.Common.{◌+◌, refl, subst}
use Rattle.std.proofs.lemmas.Result.{on_ok_weaker}
use Rattle.wb_grammar_theory.specs.States.{move}
use Rattle.wb_items.specs.Lookaheads.{Lists}
use Rattle.wb_lookahead.proofs.StepLemmas.{step_has, step_once}
use Rattle.wb_lookahead.proofs.propagate.move_on.Goals as goal

pub spread-requires-clause-has : goal.spread-requires-clause-has
spread-requires-clause-has c =
    let (rest, is) = c.requires.symbol in
    step_has c.requires.kernels c.args.state c.args.symbol c.in-Some.next c.args.item rest c.in-Some.ensures.some c.requires.has is

pub spread-requires-clause-flows : goal.spread-requires-clause-flows
spread-requires-clause-flows c =
    let (rest, is) = c.requires.symbol in
    λ t h. move c.args.item c.args.symbol rest c.args.state (c.requires.flows t h) is c.in-Some.ensures.some refl

pub returns-clause-lists : goal.returns-clause-lists
returns-clause-lists c =
    on_ok_weaker c.spread.result
    (λ lists t next leads h.
    subst (λ z. Lists c.spread.new.lookaheads z (record { production = c.args.item.production; dot = c.args.item.dot + 1 }) t)
    (step_once c.requires.kernels c.args.state c.args.symbol c.in-Some.next next c.in-Some.ensures.some leads) (lists t h))
    c.spread.ensures.lists
