use Rattle.std.proofs.Common.{◌≤◌, [], length, sym, ◌∙◌, subst, arith}
use Rattle.std.specs.Prelude.{slice_index_or}
use Rattle.std.proofs.lemmas.List.{take_all}
use Rattle.wb_items.specs.Kernels.{AreInOrder}
use Rattle.wb_items.proofs.lookaheads.item_lists.Goals as goal

pub returns-clause-is : goal.returns-clause-is
returns-clause-is c =
    let past : length c.args.kernels.now.closures ≤ c.states.state = omega (arith, c.count-state-end.ensures.exact.closures_len) in
    c.states.invariant ∙ take_all c.states.state c.args.kernels.now.closures past

pub returns-clause-in_order : goal.returns-clause-in_order
returns-clause-in_order c =
    let past : length c.args.kernels.now.closures ≤ c.states.state = omega (arith, c.count-state-end.ensures.exact.closures_len) in
    let is = c.states.invariant ∙ take_all c.states.state c.args.kernels.now.closures past in
    λ s. subst (λ z. AreInOrder (slice_index_or z s [])) (sym is) (c.count-state-end.ensures.exact.in_order s)
