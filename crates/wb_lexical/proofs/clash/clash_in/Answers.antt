use Rattle.std.proofs.Common.{arith, refl}
use Rattle.wb_lexical.proofs.ClashLemmas.{clear_more, clear_end, clash_at}
use Rattle.wb_lexical.proofs.clash.clash_in.Goals as goal

pub loop-state-preserved : goal.loop-state-preserved
loop-state-preserved c = clear_more c.args.automaton.now c.accepted-accepted.result.now c.args.preferences.now c.loop-state.state
    c.accepted-accepted.ensures.exact (c.in_default.ensures.none refl) c.loop-state.invariant

pub returns-in-Some-clause-clash : goal.returns-in-Some-clause-clash
returns-in-Some-clause-clash c = clash_at c.args.automaton.now c.accepted-accepted.result.now c.args.preferences.now c.loop-state.state
    c.set.result c.in-Some.pair.left c.in-Some.pair.right c.in_ok-text.text c.states-state-end.ensures.ordered
    (omega (arith, c.states-state-end.ensures.count)) c.accepted-accepted.ensures.exact c.loop-state.invariant c.set.ensures.path
    c.in_ok-text.ensures c.in-Some.ensures.some

pub returns-clause-none : goal.returns-clause-none
returns-clause-none c e = clear_end c.args.automaton.now c.args.preferences.now c.loop-state.state c.states-state-end.ensures.ordered
    (omega (arith, c.states-state-end.ensures.count)) c.loop-state.invariant
