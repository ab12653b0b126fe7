use Rattle.std.proofs.lemmas.Result.{on_ok_weaker}
use Rattle.wb_lookahead.proofs.PassLemmas.{item_passed}
use Rattle.wb_lookahead.proofs.SpreadLemmas.{spreads_then}
use Rattle.wb_lookahead.proofs.propagate.pass_item.Goals as goal
use Rattle.wb_lemmas.proofs.Refusals.{on_ok_both}

pub returns-clause-spreads : goal.returns-clause-spreads
returns-clause-spreads c = on_ok_weaker c.open_after.result
    (λ s. spreads_then c.in_ok-move_on.ensures.spreads s) c.open_after.ensures.spreads

pub returns-clause-passed : goal.returns-clause-passed
returns-clause-passed c =
    let (rest, is) = c.in-Some.ensures.symbol in
    on_ok_both c.open_after.result
    (λ spreads lists t has. item_passed c.args.context.now.kernels.now c.move_on.new.lookaheads c.requires.context.of_grammar c.args.state
    c.args.item c.in-Some.symbol rest is t spreads.keeps
    (λ next leads. c.in_ok-move_on.ensures.lists t next leads has)
    (λ u b p more here first begins. lists t u b p more here first has begins))
    c.open_after.ensures.spreads c.open_after.ensures.lists
