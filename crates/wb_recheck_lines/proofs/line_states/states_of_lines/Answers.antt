use Rattle.std.proofs.Common.{◌+◌, take, ap, sym, ◌∙◌, subst, arith}
use Rattle.wb_grammar_theory.proofs.FlowLemmas.{zero_state}
use Rattle.wb_items.specs.Kernels.{prefix_of}
use Rattle.wb_recheck_lines.specs.Inner.Walks.{AreStatesUpTo}
use Rattle.wb_recheck_lines.proofs.LineStateLemmas.{first_wrong, states_more, states_whole, take_at}
use Rattle.wb_recheck_lines.proofs.line_states.states_of_lines.Goals as goal

pub new-requires : goal.new-requires
new-requires c =
    let some = zero_state (prefix_of c.args.kernels.now) c.requires.states in
    let is = c.count.ensures.count in
    omega (arith, some, is)

pub returns-in-None-clause-refused : goal.returns-in-None-clause-refused
returns-in-None-clause-refused c =
    first_wrong c.args.kernels.now.grammar c.args.lines.now c.lines.place c.line_at.result c.line_at.ensures c.lines.invariant.0.good
    (c.in-None.ensures (take c.lines.place c.args.lines.now) c.lines.invariant.0.good c.lines.invariant.0.numbered)

pub lines-preserved : goal.lines-preserved
lines-preserved c =
    let after = c.in_ok-add-in-Some.ensures in
    let new = c.in-Some.ensures.1 (take c.lines.place c.args.lines.now) c.lines.invariant.0.good c.lines.invariant.0.numbered in
    let up = states_more c.args.kernels.now c.args.lines.now c.lines.found.states c.lines.place c.in-Some.state c.line_at.result
    c.lines.invariant.0 (take_at c.args.lines.now c.lines.place c.line_at.result c.line_at.ensures) new in (
      subst (λ z. AreStatesUpTo c.args.kernels.now c.args.lines.now z.states (c.lines.place + 1)) (sym after) up,
      ap (λ z. z.count) after ∙ c.lines.invariant.1,
    )

pub returns-clause-states : goal.returns-clause-states
returns-clause-states c =
    (states_whole c.args.kernels.now c.args.lines.now c.lines.found.states c.lines.place c.lines.invariant.0
    (omega (arith, c.lines-test.false))).1
