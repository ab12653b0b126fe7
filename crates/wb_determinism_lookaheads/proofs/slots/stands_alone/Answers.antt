use Rattle.std.proofs.Common.{arith}
use Rattle.wb_determinism_lookaheads.proofs.TogetherLemmas.{alone_moved, alone_past}
use Rattle.wb_determinism_lookaheads.proofs.slots.stands_alone.Goals as goal

pub returns-then-one-gt0-clause-alone : goal.returns-then-one-gt0-clause-alone
returns-then-one-gt0-clause-alone c = λ _ item belong.
    alone_moved c.args.grammar.now c.args.one item belong (λ z. omega (arith, z, c.if-one-gt0.true))

pub returns-clause-alone : goal.returns-clause-alone
returns-clause-alone c = λ _ item belong.
    alone_past c.args.grammar.now c.args.one item belong (omega (arith, c.if-one-productions.false, c.productions.ensures.count))
