use Rattle.std.proofs.Common.{subst}
use Rattle.std.specs.Prelude.{IfSome}
use Rattle.wb_grammar_theory.specs.Trees.{symbols}
use Rattle.wb_session.specs.Inner.Rounds.{IsTokenAt}
use Rattle.wb_session.proofs.leaf.take_beside.Goals as goal

pub returns-in_ok-round-in-Some-clause-round : goal.returns-in_ok-round-in-Some-clause-round
returns-in_ok-round-in-Some-clause-round c places k scan =
    c.in_ok-round-in-Some.ensures.round places k
    (subst (λ a. IfSome a (IsTokenAt c.args.language.now.language c.args.text.now (symbols k.stack) c.args.from.at)) c.in-Some.is scan)

pub returns-in_ok-round-in-None-clause-round : goal.returns-in_ok-round-in-None-clause-round
returns-in_ok-round-in-None-clause-round c places k scan = c.in_ok-round-in-None.ensures.round places k
