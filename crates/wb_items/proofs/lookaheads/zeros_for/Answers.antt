use Rattle.std.proofs.Common.{◌≤◌, length, map, replicate, ◌∙◌, ap, arith}
use Rattle.std.proofs.lemmas.List.{take_all}
use Rattle.wb_items.proofs.lookaheads.zeros_for.Goals as goal

pub returns : goal.returns
returns c =
    let past : length c.args.lists.now ≤ c.lists.items-index = omega (arith, c.lists-test.false) in
    c.lists.invariant ∙ ap (map (λ items. replicate (length items) 0)) (take_all c.lists.items-index c.args.lists.now past)
