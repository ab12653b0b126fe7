use Rattle.std.proofs.Common.{sym, ◌∙◌, arith}
use Rattle.std.proofs.lemmas.Bool.{true≢false}
use Rattle.wb_automata.proofs.LeastLemmas.{least_state, none_accepts, apart_more}
use Rattle.wb_automata.proofs.least.first_accepting.Goals as goal

pub returns-then-accepts-clause-some : goal.returns-then-accepts-clause-some
returns-then-accepts-clause-some c = least_state c.args.automaton.now c.args.terminal c.loop-state.state
    c.states-state-end.ensures.ordered (omega (arith, c.states-state-end.ensures.count)) c.loop-state.invariant
    (λ s text l. (c.accepts.ensures s text l).0 c.if-accepts.true)

pub loop-state-preserved : goal.loop-state-preserved
loop-state-preserved c = apart_more c.args.automaton.now c.args.terminal c.loop-state.state c.loop-state.invariant
    (λ s text l m. true≢false (sym ((c.accepts.ensures s text l).1 m) ∙ c.if-accepts.false))

pub returns-clause-none : goal.returns-clause-none
returns-clause-none c e set text m = none_accepts c.args.automaton.now c.args.terminal c.loop-state.state
    c.states-state-end.ensures.ordered (omega (arith, c.states-state-end.ensures.count)) c.loop-state.invariant set text m
